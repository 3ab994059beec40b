use Rattle.std.proofs.Common.{refl, Some, None}
use Rattle.rtcp_parts.proofs.ItemWalks.{ended_next, less_left, taken_next}
use Rattle.rtcp_parts.proofs.items.item_from.Goals as goal

-- src/items.rt:51:13
pub returns-in-Some-clause-takes : goal.returns-in-Some-clause-takes
returns-in-Some-clause-takes c =
    taken_next c.args.datagram.now c.args.cursor.now c.chunks.cursor c.take_item.new.cursor (Some c.in-Some.item)
    c.chunks.invariant c.in-Some.ensures.takes c.in-Some.item refl

-- src/items.rt:54:13
pub returns-then-not-pass_on-clause-takes : goal.returns-then-not-pass_on-clause-takes
returns-then-not-pass_on-clause-takes c =
    ended_next c.args.datagram.now c.args.cursor.now c.chunks.cursor c.take_item.new.cursor None c.chunks.invariant
    c.in_default.ensures.takes c.pass_on.new.cursor c.pass_on.result refl c.pass_on.ensures c.if-not-pass_on.true

-- src/items.rt:49:5
pub chunks-smaller : goal.chunks-smaller
chunks-smaller c =
    less_left c.args.datagram.now c.args.cursor.now c.chunks.cursor c.take_item.new.cursor None c.chunks.invariant
    c.in_default.ensures.takes c.pass_on.new.cursor c.pass_on.result refl c.pass_on.ensures c.if-not-pass_on.false
