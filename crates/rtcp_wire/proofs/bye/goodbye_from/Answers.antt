use Rattle.std.proofs.Common.{ap, ◌∙◌}
use Rattle.rtcp_wire.specs.Views.{id_values}
use Rattle.rtcp_wire.proofs.WalkSteps.{own_ids}
use Rattle.rtcp_wire.proofs.bye.goodbye_from.Goals as goal

pub returns-clause-ids : goal.returns-clause-ids
returns-clause-ids c = ap id_values c.split_at.ensures.front ∙ own_ids c.args.count c.args.body.now c.requires.ids
