-- The slot is written behind the part that moves, and comes to its front.
use Rattle.std.proofs.Common.{◌+◌, ◌-◌, refl}
use Rattle.rtcp_members.proofs.storage.Rows.{shifted_in}
use Rattle.rtcp_members.proofs.cells.shift.Goals as goal

pub returns : goal.returns
returns c = shifted_in c.args.slots.now c.args.rank c.args.end c.args.slot c.requires.rank c.requires.end
    c.rotate_right.new.self (c.args.end + 1 - c.args.rank) refl c.rotate_right.ensures.after
