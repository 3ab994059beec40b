-- The first source above is the first of what is left, and the others are left.
use Rattle.std.proofs.Common.{◌≡◌, ◌<◌, ℕ, List, ◌∷◌, length, Option, Some, option_map, Bor, sym, ap, ◌∙◌, arith}
use Rattle.rtcp_members.specs.ListViews.{state_value}
use Rattle.rtcp_members.specs.Tables.{TableValue}
use Rattle.rtcp_members.specs.Listings.{StateValue, state_above, states_of}
use Rattle.rtcp_members.proofs.listing.Above.{listed_more}
use Rattle.rtcp_members.proofs.sources.SourcesIterator.next.Goals as goal

first_of : (after : Option ℕ) (asked : Option TableValue) (left : List StateValue) (table : TableValue)
    (state : StateValue) → states_of after asked ≡ left → asked ≡ Some table → Some state ≡ state_above after table
    → left ≡ state ∷ states_of (Some state.ssrc) asked
first_of after asked left table state view is first =
    sym view ∙ ap (states_of after) is ∙ listed_more after table state (sym first)
    ∙ ap (λ (o : Option TableValue). state ∷ states_of (Some state.ssrc) o) (sym is)

one_fewer : (old new : List StateValue) (state : StateValue) → old ≡ state ∷ new → length new < length old
one_fewer old new state is = omega (arith, ap length is)

pub returns-in-Some-source_from-clause-steps : goal.returns-in-Some-source_from-clause-steps
returns-in-Some-source_from-clause-steps g c =
    let content = λ (t : Bor g.row.T.Denot). g.T.MemberTable.content t.now in
    first_of c.self.inside.after (option_map content c.self.inside.table) c.args.self.now (content c.in-Some.table)
    (state_value c.in-Some-source_from.state) c.self.view_is (ap (option_map content) c.in-Some.is)
    c.in-Some-source_from.ensures

pub returns-in-Some-source_from-clause-goes : goal.returns-in-Some-source_from-clause-goes
returns-in-Some-source_from-clause-goes g c =
    let content = λ (t : Bor g.row.T.Denot). g.T.MemberTable.content t.now in
    let falls = one_fewer c.args.self.now
    (states_of (Some c.in-Some-source_from.state.ssrc) (option_map content c.self.inside.table))
    (state_value c.in-Some-source_from.state) (returns-in-Some-source_from-clause-steps g c) in
    record { on = λ f. (tt, tt, falls); keeps = tt; rests = λ f. tt }
