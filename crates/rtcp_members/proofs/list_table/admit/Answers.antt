-- What becomes of the fact is decided by whether it is a BYE, and by the room that is left.
use Rattle.std.proofs.Common.{rules, [], ◌∷◌, ◌++◌, arith}
use Rattle.rtcp_wire.specs.Facts.{subject}
use Rattle.rtcp_members.proofs.lists.Admitting.{no_room, admitted, map_pushed, listed_push}
use Rattle.rtcp_members.proofs.list_table.admit.Goals as goal

pub returns-then-len-capacity-clause-place : goal.returns-then-len-capacity-clause-place
returns-then-len-capacity-clause-place c =
    (no_room c.args.capacity c.args.entries.now.items c.args.fact c.args.t c.requires.listed.apart
    c.requires.absent (search rules) (omega (arith, c.len.ensures.value, c.if-len-capacity.true))).0

pub returns-then-len-capacity-clause-table : goal.returns-then-len-capacity-clause-table
returns-then-len-capacity-clause-table c =
    (no_room c.args.capacity c.args.entries.now.items c.args.fact c.args.t c.requires.listed.apart
    c.requires.absent (search rules) (omega (arith, c.len.ensures.value, c.if-len-capacity.true))).1

pub returns-clause-listed : goal.returns-clause-listed
returns-clause-listed c =
    rw c.push.ensures.items
    (listed_push c.args.capacity c.args.entries.now.items c.take_fact.new.self (subject c.args.fact) c.requires.listed
    c.requires.absent (search rules) (omega (arith, c.len.ensures.value, c.if-len-capacity.false)))

pub returns-clause-place : goal.returns-clause-place
returns-clause-place c =
    (admitted c.args.capacity c.args.entries.now.items
    (c.args.entries.now.items ++ c.take_fact.new.self ∷ []) c.args.fact c.args.t c.requires.listed.apart
    c.requires.absent (search rules) (omega (arith, c.len.ensures.value, c.if-len-capacity.false))
    (map_pushed c.args.entries.now.items c.args.fact c.args.t c.take_fact.new.self c.requires.absent
    (search rules) (search rules))).0

pub returns-clause-table : goal.returns-clause-table
returns-clause-table c =
    rw c.push.ensures.items
    ((admitted c.args.capacity c.args.entries.now.items
    (c.args.entries.now.items ++ c.take_fact.new.self ∷ []) c.args.fact c.args.t c.requires.listed.apart
    c.requires.absent (search rules) (omega (arith, c.len.ensures.value, c.if-len-capacity.false))
    (map_pushed c.args.entries.now.items c.args.fact c.args.t c.take_fact.new.self c.requires.absent
    (search rules) (search rules))).1)
