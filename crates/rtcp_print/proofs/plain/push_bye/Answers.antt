use Rattle.std.specs.List.{flat_map}
use Rattle.std.proofs.Common.{ap, ◌∙◌}
use Rattle.rtcp_plain.specs.Plain.{source_text}
use Rattle.rtcp_print.proofs.Pieces.{pieces_given}
use Rattle.rtcp_print.proofs.PageLemmas.{both, told_as}
use Rattle.rtcp_print.proofs.plain.push_bye.Goals as goal

pub returns-clause-adds : goal.returns-clause-adds
returns-clause-adds c =
    let each = c.push_each.ensures.adds in
    both (both c.push.ensures.adds
    (told_as each.2 (pieces_given (λ id. id) source_text c.ids.result each.0 each.1
    ∙ ap (flat_map source_text) c.ids.ensures)))
    c.push_reason.ensures.adds
