-- The rank that is found is that of the first pending source, and its entry is the one that the map has.
use Rattle.std.proofs.Common.{List, arith, refl, ap, ◌∙◌}
use Rattle.std.proofs.lemmas.Option.{slice_get_within}
use Rattle.rtcp_wire.specs.Views.{block_value}
use Rattle.rtcp_members.specs.declared.entry.Entry.{Entry}
use Rattle.rtcp_members.specs.Pending.{first_ssrc, pending}
use Rattle.rtcp_members.specs.Tables.{TableValue}
use Rattle.rtcp_members.proofs.sorted.Reported.{block_made, kept_reported, table_after}
use Rattle.rtcp_members.proofs.turns.NextBlock.{next_block_made}
use Rattle.rtcp_members.proofs.sorted_table.SortedMemberTable.next_block.Goals as goal

pub overflow_cast-self : goal.overflow_cast-self
overflow_cast-self g c =
    let found = c.in-Some.ensures c.self.inside.capacity in
    omega (
      arith,
      slice_get_within c.self.inside.entries.items c.in-Some.at found.place.entry found.place.stands,
      c.self.invariant.sorted.within,
      c.self.invariant.sorted.room,
    )

pub report-requires : goal.report-requires
report-requires g c =
    let items : List Entry = c.self.inside.entries.items in
    let found = c.in-Some.ensures c.self.inside.capacity in
    record {
      stands = slice_get_within items c.in-Some.at found.place.entry found.place.stands;
      due = found.due;
    }

pub returns-in-Some : goal.returns-in-Some
returns-in-Some g c =
    let items : List Entry = c.self.inside.entries.items in
    let next : List Entry = c.report.new.self.items in
    let at = c.in-Some.at in
    let value = block_value c.report.result in
    let capacity = c.self.inside.capacity in
    let found = c.in-Some.ensures capacity in
    let made = c.report.ensures.made in
    let so = next_block_made found.ssrc c.args.t (pending c.args.after c.args.self.now) c.args.self.now _ value
    (found.first ∙ ap (λ (table : TableValue). first_ssrc (pending c.args.after table)) c.self.view_is)
    (block_made found.ssrc c.args.t items next at value found.place made capacity c.args.self.now c.self.view_is)
    (table_after found.ssrc c.args.t items next at value found.place made capacity c.args.self.now
    c.self.invariant.sorted.rising c.self.view_is) in
    record { source = so.source; block = so.block; content = so.content; writable = made.writable }

pub returns-in-None : goal.returns-in-None
returns-in-None g c = record {
  source = c.in-None.ensures c.self.inside.capacity
      ∙ ap (λ (table : TableValue). first_ssrc (pending c.args.after table)) c.self.view_is;
  block = tt;
  content = refl;
  writable = tt;
}

pub invariant_of-self : goal.invariant_of-self
invariant_of-self g c =
    let found = c.in-Some.ensures c.self.inside.capacity in
    kept_reported found.ssrc c.args.t c.self.inside.entries.items c.report.new.self.items c.in-Some.at
    (block_value c.report.result) found.place c.report.ensures.made c.self.inside.capacity c.self.inside.entries.room
    c.report.new.self.room c.self.inside.bounds c.report.ensures.in_place.room c.self.invariant
