-- What the walks found is the first pending source.
use Rattle.std.proofs.Common.{Some, None, rules, refl}
use Rattle.rtcp_members.specs.ListViews.{rows_of}
use Rattle.rtcp_members.specs.Least.{least, is_due_above}
use Rattle.rtcp_members.proofs.turns.LeastDue.{first_waiting_in}
use Rattle.rtcp_members.proofs.list_table.ListTableMemberTable.next_with_news.Goals as goal

pub returns-in-Some : goal.returns-in-Some
returns-in-Some c =
    first_waiting_in c.args.after c.self.inside.capacity c.self.inside.entries.items c.args.self.now
    (Some c.in-Some.ssrc) (least (is_due_above None) (rows_of c.self.inside.entries.items))
    c.self.invariant.apart c.self.view_is (search rules) refl

pub returns-in-None : goal.returns-in-None
returns-in-None c =
    first_waiting_in c.args.after c.self.inside.capacity c.self.inside.entries.items c.args.self.now
    None c.least_due-in-None.result
    c.self.invariant.apart c.self.view_is (search rules) (search rules)
