use Rattle.rtcp_wire.proofs.ItemSteps.{item_step}
use Rattle.rtcp_wire.proofs.sdes.items.split_item.Goals as goal

pub split_at-requires-2 : goal.split_at-requires-2
split_at-requires-2 c = rw c.split_at.ensures.back (item_step c.args.octets.now c.requires.items c.requires.some).room
