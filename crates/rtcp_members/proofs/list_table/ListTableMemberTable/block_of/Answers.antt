-- The list that the call worked on is the table's.
use Rattle.std.proofs.Common.{◌∙◌, ap}
use Rattle.rtcp_members.specs.Pending.{block_at}
use Rattle.rtcp_members.specs.ListViews.{table_of}
use Rattle.rtcp_members.proofs.list_table.ListTableMemberTable.block_of.Goals as goal

pub returns-clause-block : goal.returns-clause-block
returns-clause-block c =
    c.report_at.ensures.block c.self.inside.capacity
    ∙ ap (λ entries. block_at c.args.ssrc c.args.t (table_of c.self.inside.capacity entries))
    c.as_mut_slice.ensures.value
    ∙ ap (block_at c.args.ssrc c.args.t) c.self.view_is
