-- The entry at the rank is the one that the map has.
use Rattle.std.proofs.Common.{not, sym, ap, subst, ◌∙◌}
use Rattle.rtcp_members.specs.storage.Heaps.{no_entry}
use Rattle.rtcp_members.specs.ListViews.{table_of}
use Rattle.rtcp_members.specs.storage.SortedViews.{IsSortedTable}
use Rattle.rtcp_members.specs.storage.Standing.{AllStandBy}
use Rattle.rtcp_members.proofs.lists.Leaving.{found_unmarked, sorted_removed, stand_removed, table_removed}
use Rattle.rtcp_members.proofs.sorted.Rising.{rising_apart}
use Rattle.rtcp_members.proofs.sorted_table.forget_at.Goals as goal

pub returns-clause-held : goal.returns-clause-held
returns-clause-held g c =
    ap not (sym c.if-is_marked_at.false)
    ∙ found_unmarked c.args.ssrc c.args.entries.now.items c.args.at c.requires.rank no_entry c.is_marked_at.result
    (c.is_marked_at.ensures no_entry)

pub returns-clause-sorted : goal.returns-clause-sorted
returns-clause-sorted g c = λ capacity sorted.
    subst (IsSortedTable capacity) (sym c.remove.ensures.items)
    (sorted_removed c.args.ssrc c.args.entries.now.items c.args.at c.requires.rank capacity sorted)

pub returns-clause-stand : goal.returns-clause-stand
returns-clause-stand g c = λ bounds all.
    subst (AllStandBy bounds) (sym c.remove.ensures.items)
    (stand_removed bounds c.args.entries.now.items c.args.at all)

pub returns-clause-table : goal.returns-clause-table
returns-clause-table g c = λ capacity.
    ap (table_of capacity) c.remove.ensures.items
    ∙ table_removed c.args.ssrc c.args.entries.now.items c.args.at c.requires.rank capacity
    (rising_apart c.args.entries.now.items c.requires.rising) (returns-clause-held g c)
