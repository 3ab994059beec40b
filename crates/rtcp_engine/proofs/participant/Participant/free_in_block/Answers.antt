use Rattle.std.proofs.Common.{◌≡◌, ◌∙◌, ◌||◌, Bool, true, false, refl, sym, ap}
use Rattle.rtcp_engine.specs.answers.Changes.{Session, identifiers, is_in_table, is_taken, named_by, is_among}
use Rattle.rtcp_engine.specs.state.Named.{after, is_marked}
use Rattle.rtcp_engine.specs.state.States.{IsIn, over}
use Rattle.rtcp_engine.specs.state.Views.{datagram_of}
use Rattle.rtcp_engine.proofs.IdentifierSearch.{one_more_taken}
use Rattle.rtcp_engine.proofs.participant.Participant.free_in_block.Goals as goal
use Rattle.rtcp_engine.proofs.participant.Participant.free_in_block.Given.{Over}
use Rattle.rtcp_engine.proofs.participant.Participant.free_in_block.Goals.{After-holds, then-holds, else-holds}

either : (own table named : Bool) → (own || (table || named)) ≡ ((own || table) || named)
either true table named = refl
either false table named = refl

-- whether an identifier is taken, by what was asked of it
taken_is : (g : Over) (c : After-holds g) (session : Session) → IsIn c.args.self.now session →
    (c.args.self.now.phase ≡ over → ⊥) →
    is_taken session (datagram_of c.args.arrival.now) (after c.args.first c.tries.offset)
    ≡ (c.holds.result || is_marked c.names_from-named.result c.tries.offset)
taken_is g c session h there =
    let datagram = datagram_of c.args.arrival.now in
    let ssrc = after c.args.first c.tries.offset in
    either (is_among (identifiers session) ssrc) (is_in_table session.setup session.life ssrc)
    (is_among (named_by datagram) ssrc)
    ∙ (λ i. sym (c.holds.ensures session h there) i
    || sym (c.names_from-named.ensures c.tries.offset c.tries-test.true) i)

pub returns-then-not-named-offset-clause-free : goal.returns-then-not-named-offset-clause-free
returns-then-not-named-offset-clause-free g c session h there =
    let named : Bool = is_marked c.names_from-named.result c.tries.offset in
    let value : c.if-holds.value ≡ (c.holds.result || named) = elim c.if-holds.branch [
      | then-holds w ↦ w.value-is ∙ w.if-holds.true ∙ sym (ap (λ (b : Bool). b || named) w.if-holds.true)
      | else-holds w ↦ w.value-is ∙ sym (ap (λ (b : Bool). b || named) w.if-holds.false)
    ] in
    record {
      tries = c.tries.offset;
      here = refl;
      free = taken_is g (goal.at.returns-then-not-named-offset-clause-free g c).After-holds session h there ∙ sym value
          ∙ c.if-not-named-offset.true;
      sooner = c.tries.invariant session h there;
    }

pub tries-preserved : goal.tries-preserved
tries-preserved g c session h there =
    let datagram = datagram_of c.args.arrival.now in
    let named : Bool = is_marked c.names_from-named.result c.tries.offset in
    let value : c.if-holds.value ≡ (c.holds.result || named) = elim c.if-holds.branch [
      | then-holds w ↦ w.value-is ∙ w.if-holds.true ∙ sym (ap (λ (b : Bool). b || named) w.if-holds.true)
      | else-holds w ↦ w.value-is ∙ sym (ap (λ (b : Bool). b || named) w.if-holds.false)
    ] in
    one_more_taken (is_taken session datagram) c.args.first c.tries.offset (c.tries.invariant session h there)
    (taken_is g (goal.at.tries-preserved g c).After-holds session h there ∙ sym value ∙ c.if-not-named-offset.false)
