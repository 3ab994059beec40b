use Rattle.rtcp_json.specs.ToldValues.{is_shown}
use Rattle.rtcp_json.proofs.TellingLemmas.{one_text_if, text_exists_if}
use Rattle.rtcp_json.proofs.laws.one_told_text.Goals as goal

pub returns-clause-always : goal.returns-clause-always
returns-clause-always c event answer = text_exists_if (is_shown event answer) event answer

pub returns-clause-only : goal.returns-clause-only
returns-clause-only c event answer text1 text2 = one_text_if (is_shown event answer) event answer text1 text2
