-- The list that the call worked on is the table's.
use Rattle.std.proofs.Common.{◌∙◌, ap}
use Rattle.rtcp_members.specs.Tables.{counted}
use Rattle.rtcp_members.specs.ListViews.{table_of}
use Rattle.rtcp_members.proofs.list_table.ListTableMemberTable.apply.Goals as goal

pub returns-in-Some-clause-counted : goal.returns-in-Some-clause-counted
returns-in-Some-clause-counted c =
    c.apply_at.ensures.counted c.self.inside.capacity
    ∙ ap (λ entries. counted (table_of c.self.inside.capacity entries) c.args.fact)
    c.as_mut_slice.ensures.value
    ∙ ap (λ table. counted table c.args.fact) c.self.view_is
