-- What the walks found is the first pending source.
use Rattle.std.proofs.Common.{List, drop, arith, refl, sym, subst, ◌∙◌}
use Rattle.std.proofs.lemmas.List.{take_all}
use Rattle.rtcp_members.specs.declared.entry.Entry.{Entry}
use Rattle.rtcp_members.specs.ListViews.{table_of}
use Rattle.rtcp_members.specs.storage.SortedViews.{RanksFirst}
use Rattle.rtcp_members.proofs.turns.InCyclicTurn.{ranked_from, ranked_before, none_pending}
use Rattle.rtcp_members.proofs.lists.Ranks.{due_rows_of}
use Rattle.rtcp_members.proofs.sorted_table.next_due.Goals as goal
use Rattle.rtcp_members.proofs.sorted_table.next_due.Given.{Over}
use Rattle.rtcp_members.proofs.sorted_table.next_due.Goals.{After-first_due}

-- the first walk goes on to the end
to_the_end : (g : Over) (c : After-first_due g) →
    RanksFirst (due_rows_of (drop c.first_above-first.result c.args.entries.now.items)) c.args.entries.now.items
    c.first_due.result
to_the_end g c =
    let items : List Entry = c.args.entries.now.items in
    subst (λ (xs : List Entry). RanksFirst (due_rows_of (drop c.first_above-first.result xs)) items c.first_due.result)
    (take_all c.len.result items (omega (arith, c.len.ensures))) c.first_due.ensures

pub returns-in-Some : goal.returns-in-Some
returns-in-Some g c = λ capacity.
    let items : List Entry = c.args.entries.now.items in
    let n = c.first_above-first.result in
    ranked_from c.args.after capacity items n (table_of capacity items) refl c.requires.rising
    c.first_above-first.ensures c.in-Some.at (subst (RanksFirst (due_rows_of (drop n items)) items) c.in-Some.is
    (to_the_end g (goal.at.returns-in-Some g c).After-first_due))

pub returns-in-None : goal.returns-in-None
returns-in-None g c = λ capacity.
    let items : List Entry = c.args.entries.now.items in
    let n = c.first_above-first.result in
    ranked_before c.args.after capacity items n (table_of capacity items) refl c.requires.rising
    c.first_above-first.ensures (subst (RanksFirst (due_rows_of (drop n items)) items) c.in-None.is
    (to_the_end g (goal.at.returns-in-None g c).After-first_due)) c.first_due-in-None.result
    c.first_due-in-None.ensures

pub returns-then-counts-eq0 : goal.returns-then-counts-eq0
returns-then-counts-eq0 g c = λ capacity.
    let items : List Entry = c.args.entries.now.items in
    none_pending c.args.after capacity items (table_of capacity items) refl c.requires.rising
    (sym c.counts.ensures.due ∙ c.if-counts-eq0.true)
