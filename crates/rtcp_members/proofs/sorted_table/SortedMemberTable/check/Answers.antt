-- A check that the bounds rule out changes nothing.
use Rattle.std.proofs.Common.{sym, ◌∙◌}
use Rattle.rtcp_members.specs.Traces.{horizons_at}
use Rattle.rtcp_members.proofs.sorted.Checking.{nothing_dropped}
use Rattle.rtcp_members.proofs.sorted_table.SortedMemberTable.check.Goals as goal

pub returns-then-reach : goal.returns-then-reach
returns-then-reach g c =
    let so = c.self.invariant in
    let none = nothing_dropped (horizons_at c.args.silent_before c.args.data_before c.args.gone_before)
    c.self.inside.capacity c.self.inside.entries.items c.self.inside.bounds c.args.self.now
    c.self.view_is so.sorted (record { stand = so.standing; within = c.reach.ensures c.if-reach.true }) in
    record { entries = none.0; senders = none.1; content = sym c.self.view_is ∙ none.2 }
