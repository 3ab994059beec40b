use Rattle.rtcp_text.specs.Lines.{lines_of}
use Rattle.rtcp_json.proofs.CheckJsonLemmas.{check_text_exists, one_check_text}
use Rattle.rtcp_json.proofs.laws.one_json_text.Goals as goal

pub returns-clause-always : goal.returns-clause-always
returns-clause-always c most input = check_text_exists most (lines_of input)

pub returns-clause-only : goal.returns-clause-only
returns-clause-only c most input text1 text2 end1 end2 =
    one_check_text most (lines_of input) text1 text2 end1 end2
