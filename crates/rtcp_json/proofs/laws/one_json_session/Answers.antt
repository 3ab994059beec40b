use Rattle.std.proofs.Common.{◌++◌, refl, sym, ap, ◌∙◌}
use Rattle.rtcp_text.specs.Lines.{lines_of}
use Rattle.rtcp_json.specs.GuardedReplayJson.{guarded_opening_json}
use Rattle.rtcp_json.specs.ReplayJson.{opening_json}
use Rattle.rtcp_json.proofs.GuardedJsonLemmas.{guarded_text_exists, one_guarded_text}
use Rattle.rtcp_json.proofs.ReplayJsonLemmas.{one_session_text, session_text_exists}
use Rattle.rtcp_json.proofs.laws.one_json_session.Goals as goal

pub returns-clause-always : goal.returns-clause-always
returns-clause-always c most history input =
    let found = session_text_exists most history (lines_of input) in
    (opening_json history ++ found.0, found.1, (found.0, refl, found.2))

pub returns-clause-only : goal.returns-clause-only
returns-clause-only c most history input text1 text2 end1 end2 (answers1, parts1, texts1) (answers2, parts2, texts2) =
    let same = one_session_text most history (lines_of input) answers1 answers2 end1 end2 texts1 texts2 in
    (parts1 ∙ ap (λ answers. opening_json history ++ answers) same.0 ∙ sym parts2, same.1)

pub returns-clause-guarded_always : goal.returns-clause-guarded_always
returns-clause-guarded_always c most history input =
    let found = guarded_text_exists most history (lines_of input) in
    (guarded_opening_json history ++ found.0, found.1, (found.0, refl, found.2))

pub returns-clause-guarded_only : goal.returns-clause-guarded_only
returns-clause-guarded_only c most history input text1 text2 end1 end2 (answers1, parts1, texts1)
    (answers2, parts2, texts2) =
    let same = one_guarded_text most history (lines_of input) answers1 answers2 end1 end2 texts1 texts2 in
    (parts1 ∙ ap (λ answers. guarded_opening_json history ++ answers) same.0 ∙ sym parts2, same.1)
