-- The entry at the place is the one that the map has.
use Rattle.std.proofs.Common.{not, rules, sym, ap, subst, ◌∙◌}
use Rattle.rtcp_members.specs.ListViews.{table_of, IsListed}
use Rattle.rtcp_members.proofs.lists.Leaving.{found_unmarked, listed_removed, table_removed}
use Rattle.rtcp_members.proofs.list_table.forget_at.Goals as goal

pub returns-clause-held : goal.returns-clause-held
returns-clause-held c =
    ap not (sym c.if-is_some.false)
    ∙ found_unmarked c.args.ssrc c.args.entries.now.items c.args.at c.requires.rank c.index-as_slice-at.result
    c.is_some.result (search rules)

pub returns-clause-listed : goal.returns-clause-listed
returns-clause-listed c = λ capacity listed.
    subst (IsListed capacity) (sym c.remove.ensures.items)
    (listed_removed c.args.ssrc c.args.entries.now.items c.args.at c.requires.rank capacity listed)

pub returns-clause-table : goal.returns-clause-table
returns-clause-table c = λ capacity.
    ap (table_of capacity) c.remove.ensures.items
    ∙ table_removed c.args.ssrc c.args.entries.now.items c.args.at c.requires.rank capacity c.requires.apart
    (returns-clause-held c)
