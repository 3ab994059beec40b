-- What is seen in the middle leaves the slots before it, or those from it on.
use Rattle.std.proofs.Common.{arith, ◌<◌, ◌+◌, ◌-◌, ◌/◌, ℕ, List, length, inl, inr, sym, ap, subst}
use Rattle.std.proofs.lemmas.Bool.{cases_lt}
use Rattle.rtcp_members.specs.declared.cells.Slot.{Slot}
use Rattle.rtcp_members.specs.storage.Index.{IsHalved}
use Rattle.rtcp_members.proofs.storage.Halving.{looser, raised, lowered}
use Rattle.rtcp_members.proofs.index.first_from.Goals as goal

pub halves-preserved : goal.halves-preserved
halves-preserved c =
    let slots : List Slot = c.args.slots.now in
    let ssrc : ℕ = c.args.ssrc in
    let at : ℕ = c.halves.at in
    let count : ℕ = c.halves.count in
    let half : ℕ = count / 2 in
    let left : ℕ = count - half in
    let so = c.halves.invariant.halved in
    let within : at + half < length slots = omega (arith, so.within, c.halves-test.true) in
    let here = ap (λ (s : Slot). s.ssrc) c.slot_at.ensures in
    let next : ℕ → Type 0 = λ more. IsHalved ssrc slots (at + more) (at + more + left) in
    record {
      halved = elim (cases_lt c.slot_at.result.ssrc ssrc) [
        | inl less ↦ subst next (sym (c.if_before-at.ensures.before less))
            (looser ssrc slots (at + half + 1) (at + count) (at + half) (at + half + left)
            (raised ssrc slots c.requires.rising at (at + count) (at + half) so within (omega (arith, here, less)))
            (omega arith) (omega arith) (omega (arith, so.within)))
        | inr from ↦ subst next (sym (c.if_before-at.ensures.after from))
            (looser ssrc slots at (at + half) (at + 0) (at + 0 + left)
            (lowered ssrc slots c.requires.rising at (at + count) (at + half) so within (omega arith)
            (omega (arith, here, from))) (omega arith) (omega arith) (omega (arith, so.within)))
      ];
      some = omega (arith, c.halves-test.true);
    }
