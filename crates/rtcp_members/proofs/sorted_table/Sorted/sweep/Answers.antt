-- A check that changes nothing leaves all but the bounds. Else what the list is after it, the table is.
use Rattle.std.proofs.Common.{◌-◌, ◌∙◌, arith}
use Rattle.rtcp_members.specs.Traces.{horizons_at}
use Rattle.rtcp_members.proofs.lists.Tallies.{fewer_checked, fewer_senders_checked, table_checked, dropped_checked}
use Rattle.rtcp_members.proofs.sorted.Checking.{listed_of, nothing_dropped, senders_dropped, sorted_checked}
use Rattle.rtcp_members.proofs.sorted_table.Sorted.sweep.Goals as goal

-- ---- Where each entry is left as it is

pub invariant_of-self : goal.invariant_of-self
invariant_of-self g c =
    let so = c.self.invariant in
    record { sorted = so.sorted; roomy = so.roomy; standing = c.in-Some.ensures.stand }

pub returns-in-Some : goal.returns-in-Some
returns-in-Some g c =
    let none = nothing_dropped (horizons_at c.args.silent c.args.idle c.args.gone) c.self.inside.capacity
    c.self.inside.entries.items c.in-Some.bounds c.args.self.now c.self.view_is
    c.self.invariant.sorted c.in-Some.ensures in
    record { entries = none.0; senders = none.1; content = none.2 }

-- ---- Where some entry changes

pub overflow_sub-removed : goal.overflow_sub-removed
overflow_sub-removed g c =
    omega (
      arith,
      fewer_checked (horizons_at c.args.silent c.args.idle c.args.gone) c.self.inside.entries.items
          c.drop_silent-self-inside.new.self.items c.drop_silent-self-inside.ensures.items,
      c.len.ensures,
      c.len-entries.ensures,
    )

pub overflow_sub-ended : goal.overflow_sub-ended
overflow_sub-ended g c =
    omega (
      arith,
      fewer_senders_checked (horizons_at c.args.silent c.args.idle c.args.gone) c.self.inside.entries.items
          c.drop_silent-self-inside.new.self.items c.drop_silent-self-inside.ensures.items,
      c.counts-2.ensures.senders,
      c.counts.ensures.senders,
    )

pub invariant_of-self-2 : goal.invariant_of-self-2
invariant_of-self-2 g c =
    record {
      sorted = sorted_checked (horizons_at c.args.silent c.args.idle c.args.gone) c.self.inside.entries.items
          c.drop_silent-self-inside.new.self.items c.drop_silent-self-inside.ensures.items c.self.inside.capacity
          c.self.invariant.sorted;
      roomy = omega (arith, c.self.invariant.roomy, c.drop_silent-self-inside.ensures.in_place.room);
      standing = c.drop_silent-self-inside.ensures.stand;
    }

pub returns : goal.returns
returns g c =
    let horizons = horizons_at c.args.silent c.args.idle c.args.gone in
    let items = c.self.inside.entries.items in
    let next = c.drop_silent-self-inside.new.self.items in
    let is = c.drop_silent-self-inside.ensures.items in
    let capacity = c.self.inside.capacity in
    let so = c.self.invariant in
    let listed = listed_of capacity items so.sorted in
    record {
      entries = (λ i. c.len-entries.ensures i - c.len.ensures i)
          ∙ dropped_checked horizons items next is capacity c.args.self.now c.self.view_is listed;
      senders = c.from.ensures
          ∙ senders_dropped horizons items next is capacity c.args.self.now c.self.view_is so.sorted
          c.counts.result c.counts-2.result c.counts.ensures c.counts-2.ensures;
      content = table_checked horizons items next is capacity c.args.self.now c.self.view_is listed;
    }
