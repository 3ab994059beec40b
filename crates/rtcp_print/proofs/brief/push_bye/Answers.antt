use Rattle.std.specs.List.{join_with_byte}
use Rattle.rtcp_text.specs.Text.{hex_word}
use Rattle.std.proofs.Common.{ap, ◌∙◌, map}
use Rattle.rtcp_print.proofs.Pieces.{texts_given}
use Rattle.rtcp_print.proofs.PageLemmas.{both, told_as}
use Rattle.rtcp_print.proofs.brief.push_bye.Goals as goal

pub returns-clause-adds : goal.returns-clause-adds
returns-clause-adds c =
    let joined = c.push_joined.ensures.adds in
    let texts = ap (join_with_byte 59) (texts_given (λ id. id) hex_word c.ids.result joined.0 joined.1
    ∙ ap (map hex_word) c.ids.ensures) in
    both (both (both (both c.push.ensures.adds (told_as joined.2 texts))
    c.push-2.ensures.adds)
    c.push_reason.ensures.adds)
    c.push-3.ensures.adds
