use Rattle.rtcp_text.proofs.CheckLemmas.{check_text_exists, one_check_text}
use Rattle.rtcp_text.specs.Lines.{lines_of}
use Rattle.rtcp_text.proofs.laws.one_text.Goals as goal

pub returns-clause-always : goal.returns-clause-always
returns-clause-always c shows most input = check_text_exists shows most 1 (lines_of input)

pub returns-clause-only : goal.returns-clause-only
returns-clause-only c shows most input text1 text2 end1 end2 =
    one_check_text shows most 1 (lines_of input) text1 text2 end1 end2
