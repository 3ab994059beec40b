use Rattle.std.proofs.Common.{◌++◌, refl, sym, ap, ◌∙◌}
use Rattle.rtcp_guarded_text.specs.GuardedReplay.{guarded_opening}
use Rattle.rtcp_text.specs.Lines.{lines_of}
use Rattle.rtcp_guarded_text.proofs.GuardedLemmas.{guarded_text_exists, one_guarded_text}
use Rattle.rtcp_guarded_text.proofs.laws.one_guarded_text.Goals as goal

pub returns-clause-always : goal.returns-clause-always
returns-clause-always c most history input =
    let found = guarded_text_exists most history (lines_of input) in
    (guarded_opening history ++ found.0, found.1, (found.0, refl, found.2))

pub returns-clause-only : goal.returns-clause-only
returns-clause-only c most history input text1 text2 end1 end2 (answers1, parts1, texts1) (answers2, parts2, texts2) =
    let same = one_guarded_text most history (lines_of input) answers1 answers2 end1 end2 texts1 texts2 in
    (parts1 ∙ ap (λ answers. guarded_opening history ++ answers) same.0 ∙ sym parts2, same.1)
