-- A source of which a block is due is found, and its entry is the one that the map has.
use Rattle.std.proofs.Common.{List, IsTrue, sym, subst}
use Rattle.std.proofs.lemmas.Option.{slice_get_within}
use Rattle.rtcp_wire.specs.Views.{block_value}
use Rattle.rtcp_members.specs.declared.entry.Entry.{Entry}
use Rattle.rtcp_members.specs.ListViews.{table_of, IsRankOf}
use Rattle.rtcp_members.specs.Pending.{is_due_at}
use Rattle.rtcp_members.specs.storage.SortedViews.{Locates}
use Rattle.rtcp_members.specs.Tables.{TableValue}
use Rattle.rtcp_members.proofs.sorted.Placing.{due_there}
use Rattle.rtcp_members.proofs.sorted.Reported.{block_made, kept_reported, table_after}
use Rattle.rtcp_members.proofs.sorted.Searching.{due_is_found}
use Rattle.rtcp_members.proofs.sorted_table.SortedMemberTable.block_of.Goals as goal
use Rattle.rtcp_members.proofs.sorted_table.SortedMemberTable.block_of.Given.{Over}
use Rattle.rtcp_members.proofs.sorted_table.SortedMemberTable.block_of.Goals.{After-unwrap-at}

stands : (g : Over) (c : After-unwrap-at g) → IsRankOf c.args.ssrc c.self.inside.entries.items c.unwrap-at.result
stands g c = subst (Locates c.args.ssrc c.self.inside.entries.items) c.unwrap-at.ensures c.search.ensures

is_due_there : (g : Over) (c : After-unwrap-at g) → IsTrue (is_due_at c.args.ssrc
    (table_of c.self.inside.capacity c.self.inside.entries.items))
is_due_there g c = subst (λ (table : TableValue). IsTrue (is_due_at c.args.ssrc table)) (sym c.self.view_is) c.requires

pub unwrap-at-requires : goal.unwrap-at-requires
unwrap-at-requires g c = due_is_found c.args.ssrc c.self.inside.capacity c.self.inside.entries.items
    c.args.self.now c.search.result c.self.view_is c.requires c.search.ensures

pub report-requires : goal.report-requires
report-requires g c =
    let items : List Entry = c.self.inside.entries.items in
    let place = stands g (goal.at.report-requires g c).After-unwrap-at in
    let due = is_due_there g (goal.at.report-requires g c).After-unwrap-at in
    record {
      stands = slice_get_within items c.unwrap-at.result place.entry place.stands;
      due = due_there c.args.ssrc items c.unwrap-at.result place due;
    }

pub returns : goal.returns
returns g c =
    let items : List Entry = c.self.inside.entries.items in
    let next : List Entry = c.report.new.self.items in
    let at = c.unwrap-at.result in
    let value = block_value c.report.result in
    let place = stands g (goal.at.returns g c).After-unwrap-at in
    let made = c.report.ensures.made in
    record {
      block = block_made c.args.ssrc c.args.t items next at value place made c.self.inside.capacity c.args.self.now
          c.self.view_is;
      content = table_after c.args.ssrc c.args.t items next at value place made c.self.inside.capacity c.args.self.now
          c.self.invariant.sorted.rising c.self.view_is;
      writable = made.writable;
    }

pub invariant_of-self : goal.invariant_of-self
invariant_of-self g c =
    let items : List Entry = c.self.inside.entries.items in
    let place = stands g (goal.at.invariant_of-self g c).After-unwrap-at in
    kept_reported c.args.ssrc c.args.t items c.report.new.self.items c.unwrap-at.result (block_value c.report.result)
    place c.report.ensures.made c.self.inside.capacity c.self.inside.entries.room c.report.new.self.room
    c.self.inside.bounds c.report.ensures.in_place.room c.self.invariant
