use Rattle.std.proofs.Common.{◌≤◌, ◌*◌, length, take, drop, ap, ◌∙◌, arith}
use Rattle.std.proofs.lemmas.List.{length-drop}
use Rattle.rtcp_wire.specs.Views.{block_values}
use Rattle.rtcp_wire.proofs.WalkSteps.{own_blocks}
use Rattle.rtcp_wire.proofs.rr.receiver_report_from.Goals as goal

pub returns-clause-blocks : goal.returns-clause-blocks
returns-clause-blocks c =
    let ends = drop 4 c.args.body.now in
    let room : 24 * c.args.count ≤ length ends = omega (arith, c.requires, length-drop 4 c.args.body.now) in
    let left = c.u32-ssrc.ensures.rest ∙ ap (drop 4) c.new-reader.ensures in
    ap block_values (c.take-block_octets.ensures.taken ∙ ap (take (24 * c.args.count)) left)
    ∙ own_blocks c.args.count ends room
