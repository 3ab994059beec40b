-- The slots from the rank on are turned by one.
use Rattle.std.proofs.Common.{◌-◌, refl}
use Rattle.rtcp_members.proofs.storage.Behind.{moved_behind}
use Rattle.rtcp_members.proofs.shelf.move_behind.Goals as goal

pub returns : goal.returns
returns c = moved_behind c.args.slots.now c.rotate_left.new.self c.args.used c.args.at (c.args.used - c.args.at)
    c.requires.stands c.requires.in_use refl c.rotate_left.ensures.permutation c.rotate_left.ensures.after
