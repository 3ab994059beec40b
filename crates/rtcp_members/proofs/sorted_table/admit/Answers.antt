-- What becomes of the fact is decided by whether it is a BYE, and by the room that is left.
use Rattle.std.proofs.Common.{rules, arith, ◌∙◌}
use Rattle.rtcp_wire.specs.Facts.{subject}
use Rattle.rtcp_members.proofs.sorted.Rising.{rising_apart}
use Rattle.rtcp_members.proofs.sorted.Searching.{none_in_gap}
use Rattle.rtcp_members.proofs.lists.Admitting.{ignored, no_room}
use Rattle.rtcp_members.proofs.sorted.Inserting.{inserted, sorted_insert}
use Rattle.rtcp_members.proofs.moving.Moving.{none_differ}
use Rattle.rtcp_members.proofs.sorted_table.admit.Goals as goal

pub returns-then-is_goodbye-clause-place : goal.returns-then-is_goodbye-clause-place
returns-then-is_goodbye-clause-place g c =
    c.without_an_entry.ensures.place
    ∙ (ignored c.args.capacity c.args.entries.now.items c.args.fact c.args.t
    (none_in_gap (subject c.args.fact) c.args.entries.now.items c.args.gap c.requires.gap) (search rules)).0

pub returns-then-is_goodbye-clause-table : goal.returns-then-is_goodbye-clause-table
returns-then-is_goodbye-clause-table g c =
    (ignored c.args.capacity c.args.entries.now.items c.args.fact c.args.t
    (none_in_gap (subject c.args.fact) c.args.entries.now.items c.args.gap c.requires.gap) (search rules)).1

pub returns-then-is_goodbye-clause-moved : goal.returns-then-is_goodbye-clause-moved
returns-then-is_goodbye-clause-moved g c =
    c.without_an_entry.ensures.moved ∙ none_differ c.args.entries.now.items

pub returns-then-len-capacity-clause-moved : goal.returns-then-len-capacity-clause-moved
returns-then-len-capacity-clause-moved g c =
    c.without_an_entry-then-len-capacity.ensures.moved ∙ none_differ c.args.entries.now.items

pub returns-then-len-capacity-clause-place : goal.returns-then-len-capacity-clause-place
returns-then-len-capacity-clause-place g c =
    c.without_an_entry-then-len-capacity.ensures.place
    ∙ (no_room c.args.capacity c.args.entries.now.items c.args.fact c.args.t
    (rising_apart c.args.entries.now.items c.requires.sorted.rising)
    (none_in_gap (subject c.args.fact) c.args.entries.now.items c.args.gap c.requires.gap) (search rules)
    (omega (arith, c.len.ensures, c.if-len-capacity.true))).0

pub returns-then-len-capacity-clause-table : goal.returns-then-len-capacity-clause-table
returns-then-len-capacity-clause-table g c =
    (no_room c.args.capacity c.args.entries.now.items c.args.fact c.args.t
    (rising_apart c.args.entries.now.items c.requires.sorted.rising)
    (none_in_gap (subject c.args.fact) c.args.entries.now.items c.args.gap c.requires.gap) (search rules)
    (omega (arith, c.len.ensures, c.if-len-capacity.true))).1

pub returns-clause-sorted : goal.returns-clause-sorted
returns-clause-sorted g c =
    rw c.add-moved.ensures.joined.items
    (sorted_insert c.args.capacity c.args.entries.now.items c.args.gap c.add-moved.ensures.joined.entry
    (subject c.args.fact)
    c.requires.sorted c.requires.gap c.add-moved.ensures.joined.ssrc
    (omega (arith, c.len.ensures, c.if-len-capacity.false)))

pub returns-clause-place : goal.returns-clause-place
returns-clause-place g c =
    (inserted c.args.capacity c.args.entries.now.items c.args.gap c.args.fact c.args.t
    c.add-moved.ensures.joined.entry
    c.requires.sorted.rising c.requires.gap (search rules) (omega (arith, c.len.ensures, c.if-len-capacity.false))
    c.add-moved.ensures.joined.ssrc c.add-moved.ensures.joined.value).0

pub returns-clause-table : goal.returns-clause-table
returns-clause-table g c =
    rw c.add-moved.ensures.joined.items
    ((inserted c.args.capacity c.args.entries.now.items c.args.gap c.args.fact c.args.t
    c.add-moved.ensures.joined.entry c.requires.sorted.rising c.requires.gap (search rules)
    (omega (arith, c.len.ensures, c.if-len-capacity.false)) c.add-moved.ensures.joined.ssrc
    c.add-moved.ensures.joined.value).1)
