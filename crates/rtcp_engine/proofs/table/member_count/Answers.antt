use Rattle.std.proofs.Common.{arith}
use Rattle.rtcp_members.proofs.LawLemmas.{counts_are_ordered-members}
use Rattle.rtcp_engine.proofs.table.member_count.Goals as goal

pub overflow_add-result : goal.overflow_add-result
overflow_add-result g c =
    let few = counts_are_ordered-members (g.T.MemberTable.content c.args.table.now) in
    omega (arith, few, c.requires, c.members.ensures)

pub returns-clause-few : goal.returns-clause-few
returns-clause-few g c =
    let few = counts_are_ordered-members (g.T.MemberTable.content c.args.table.now) in
    omega (arith, few, c.requires, c.members.ensures)
