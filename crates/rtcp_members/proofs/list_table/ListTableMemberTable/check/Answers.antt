-- What the list is after the check, the table is.
use Rattle.std.proofs.Common.{◌-◌, ◌∙◌, arith}
use Rattle.rtcp_members.specs.Traces.{horizons_at}
use Rattle.rtcp_members.proofs.lists.Tallies.{fewer_checked, listed_checked, table_checked, dropped_checked, senders_checked, fewer_senders_in}
use Rattle.rtcp_members.proofs.list_table.ListTableMemberTable.check.Goals as goal

pub overflow_sub-removed : goal.overflow_sub-removed
overflow_sub-removed c = omega (
  arith,
  fewer_checked (horizons_at c.args.silent_before c.args.data_before c.args.gone_before) c.self.inside.entries.items
      c.drop_silent.new.entries.items c.drop_silent.ensures,
  c.len.ensures.value,
  c.len-entries.ensures.value,
)

pub invariant_of-self : goal.invariant_of-self
invariant_of-self c = listed_checked (horizons_at c.args.silent_before c.args.data_before c.args.gone_before)
    c.self.inside.entries.items c.drop_silent.new.entries.items c.drop_silent.ensures c.self.inside.capacity
    c.args.self.now c.self.view_is c.self.invariant

pub overflow_sub-ended : goal.overflow_sub-ended
overflow_sub-ended c = fewer_senders_in (horizons_at c.args.silent_before c.args.data_before c.args.gone_before)
    c.self.inside.entries.items c.drop_silent.new.entries.items c.drop_silent.ensures c.self.inside.capacity
    c.args.self.now c.self.view_is c.self.invariant c.senders-senders.result c.senders.result
    c.senders-senders.ensures c.senders.ensures

pub returns : goal.returns
returns c =
    let horizons = horizons_at c.args.silent_before c.args.data_before c.args.gone_before in
    let items = c.self.inside.entries.items in
    let next = c.drop_silent.new.entries.items in
    let is = c.drop_silent.ensures in
    record {
      entries = (λ i. c.len-entries.ensures.value i - c.len.ensures.value i)
          ∙ dropped_checked horizons items next is c.self.inside.capacity c.args.self.now
          c.self.view_is c.self.invariant;
      senders = senders_checked horizons items next is c.self.inside.capacity c.args.self.now
          c.self.view_is c.self.invariant c.senders-senders.result c.senders.result c.senders-senders.ensures
          c.senders.ensures;
      content = table_checked horizons items next is c.self.inside.capacity c.args.self.now
          c.self.view_is c.self.invariant;
    }
