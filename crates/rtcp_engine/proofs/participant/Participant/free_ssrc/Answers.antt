use Rattle.std.proofs.Common.{◌≡◌, ◌∙◌, ◌*◌, ◌+◌, ℕ, Bool, true, false, refl, sym, ap, subst, arith}
use Rattle.rtcp_engine.specs.answers.Changes.{is_taken, most_taken, new_identifier}
use Rattle.rtcp_engine.specs.answers.Histories.{session_at}
use Rattle.rtcp_engine.specs.state.Named.{AreTaken, after}
use Rattle.rtcp_engine.specs.state.Views.{datagram_of}
use Rattle.rtcp_engine.proofs.NewIdentifiers.{few_are_taken, new_is_free}
use Rattle.rtcp_engine.proofs.IdentifierSearch.{both_taken, first_is_chosen, some_is_free}
use Rattle.rtcp_engine.proofs.participant.Participant.free_ssrc.Goals as goal

pub returns-in-Some : goal.returns-in-Some
returns-in-Some g c history h there =
    let session = session_at history in
    let datagram = datagram_of c.args.arrival.now in
    let places : ℕ = c.spans.block * 32 in
    let first = c.in-Some.ensures.free session h.session there in
    let tries : ℕ = first.tries in
    let place : c.in-Some.ssrc ≡ after c.args.w (places + tries) = first.here ∙ omega arith in
    let taken = both_taken (is_taken session datagram) c.args.w places tries (c.spans.invariant history h there)
    first.sooner in
    place
    ∙ first_is_chosen (most_taken session datagram) (is_taken session datagram) c.args.w (places + tries)
    c.ranges.w.fits (new_is_free history datagram c.args.w h.is_history c.ranges.w.fits (omega
    (arith, c.requires.few))) taken (sym (ap (is_taken session datagram) place) ∙ first.free)

pub spans-preserved : goal.spans-preserved
spans-preserved g c history h there =
    let session = session_at history in
    let datagram = datagram_of c.args.arrival.now in
    let places : ℕ = c.spans.block * 32 in
    let next : places + 32 ≡ (c.spans.block + 1) * 32 = omega arith in
    subst (AreTaken (is_taken session datagram) c.args.w) next
    (both_taken (is_taken session datagram) c.args.w places 32 (c.spans.invariant history h there)
    (c.in_default.ensures.none session h.session there refl))

pub returns : goal.returns
returns g c history h there =
    let session = session_at history in
    let datagram = datagram_of c.args.arrival.now in
    let free = new_is_free history datagram c.args.w h.is_history c.ranges.w.fits (omega (arith, c.requires.few)) in
    let taken = some_is_free (most_taken session datagram) (is_taken session datagram) c.args.w
    (c.spans.block * 32) c.ranges.w.fits (omega (
      arith,
      few_are_taken history datagram h.is_history
          c.requires.few,
      c.spans-test.false,
    )) (c.spans.invariant history h there) in
    absurd (both (is_taken session datagram (new_identifier c.args.w session datagram)) taken free)
  where
    both : (b : Bool) → b ≡ true → b ≡ false → ⊥
    both b one other = absurd (cc (sym one ∙ other))
