use Rattle.std.specs.List.{flat_map}
use Rattle.std.proofs.Common.{ap, ◌∙◌}
use Rattle.rtcp_wire.specs.Views.{packet_value}
use Rattle.rtcp_plain.specs.Plain.{packet_text}
use Rattle.rtcp_print.proofs.Pieces.{pieces_given}
use Rattle.rtcp_print.proofs.PageLemmas.{both, told_as}
use Rattle.rtcp_print.proofs.plain.push_plain.Goals as goal

pub returns-clause-adds : goal.returns-clause-adds
returns-clause-adds c =
    let each = c.push_each.ensures.adds in
    both c.push.ensures.adds (told_as each.2
    (pieces_given packet_value (packet_text c.args.rate) c.packets.result each.0 each.1
    ∙ ap (flat_map (packet_text c.args.rate)) c.packets.ensures))
