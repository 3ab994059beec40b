use Rattle.std.proofs.Common.{◌≤◌, ◌*◌, length, take, drop, ap, ◌∙◌, arith}
use Rattle.std.proofs.lemmas.List.{length-drop}
use Rattle.rtcp_wire.specs.Views.{block_values}
use Rattle.rtcp_wire.proofs.WalkSteps.{own_blocks}
use Rattle.rtcp_wire.proofs.sr.sender_report_from.Goals as goal

pub returns-clause-blocks : goal.returns-clause-blocks
returns-clause-blocks c =
    let ends = drop 24 c.args.body.now in
    let room : 24 * c.args.count ≤ length ends = omega (arith, c.requires, length-drop 24 c.args.body.now) in
    let own = c.split_at-2.ensures.front ∙ ap (take (24 * c.args.count)) c.split_at.ensures.back in
    ap block_values (c.report_from.ensures.reports ∙ own) ∙ own_blocks c.args.count ends room
