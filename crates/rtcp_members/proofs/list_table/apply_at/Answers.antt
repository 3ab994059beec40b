-- The entry at the place is the one that the map has.
use Rattle.rtcp_members.proofs.lists.Applying.{apart_applied, place_applied, counted_applied, table_applied}
use Rattle.rtcp_wire.specs.Facts.{subject}
use Rattle.rtcp_members.proofs.list_table.apply_at.Goals as goal

pub returns-clause-apart : goal.returns-clause-apart
returns-clause-apart c = apart_applied (subject c.args.fact) c.args.entries.now c.args.at c.index-entries-at.result
    c.apply.new.self c.requires.apart c.requires.rank c.apply.ensures.ssrc

pub returns-clause-place : goal.returns-clause-place
returns-clause-place c = place_applied c.args.entries.now c.args.at c.args.fact c.index-entries-at.result
    c.apply.result.place c.requires.rank c.apply.ensures.place

pub returns-clause-counted : goal.returns-clause-counted
returns-clause-counted c = counted_applied c.args.entries.now c.args.at c.args.fact
    c.index-entries-at.result c.apply.result.counted c.requires.rank c.apply.ensures.counted

pub returns-clause-table : goal.returns-clause-table
returns-clause-table c = table_applied c.args.entries.now c.args.at c.args.fact c.args.t
    c.index-entries-at.result c.apply.new.self c.requires.apart c.requires.rank c.apply.ensures.ssrc
    c.apply.ensures.value
