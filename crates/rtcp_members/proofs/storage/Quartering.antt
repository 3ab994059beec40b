-- A search among SSRCs that rise, by three slots at once.
use Rattle.std.proofs.Common.{◌≡◌, ◌<◌, ◌≤◌, ◌+◌, ◌-◌, ◌*◌, ℕ, List, length, inl, inr, arith, subst}
use Rattle.std.proofs.lemmas.Bool.{cases_lt}
use Rattle.rtcp_members.specs.declared.cells.Slot.{Slot}
use Rattle.rtcp_members.specs.storage.Index.{ssrc_in, AreRising, IsHalved}
use Rattle.rtcp_members.proofs.storage.Halving.{looser, lowered, raised}

-- a quarter where a slot lies before the source, else nothing
pub record Passes (ssrc quarter seen passed : ℕ) : Type 0 where
  pub before : seen < ssrc → passed ≡ quarter
  pub after : ssrc ≤ seen → passed ≡ 0

pub passes_as : {ssrc quarter passed : ℕ} (seen other : ℕ) → seen ≡ other → (seen < ssrc → passed ≡ quarter) →
    (ssrc ≤ seen → passed ≡ 0) → Passes ssrc quarter other passed
passes_as seen other same before after = record {
  before = λ less. before (omega (arith, same, less));
  after = λ from. after (omega (arith, same, from));
}

-- The quarters that lie before the source are passed.
module _ (ssrc : ℕ) (slots : List Slot) (rising : AreRising slots) (at quarter count : ℕ)
    (so : IsHalved ssrc slots at (at + count)) (some : 0 < quarter) (all : 4 * quarter ≤ count)
    (within : at + 3 * quarter < length slots) where
  abbrev Reaches : (passed : ℕ) → Type 0
  Reaches passed = IsHalved ssrc slots (at + passed) (at + passed + (count - 3 * quarter))

  high : at + count ≤ length slots
  high = so.within

  rises : ssrc_in slots (at + quarter) < ssrc_in slots (at + 2 * quarter)
  rises = rising (at + quarter) (at + 2 * quarter) (omega (arith, some)) (omega (arith, within))

  rises_on : ssrc_in slots (at + 2 * quarter) < ssrc_in slots (at + 3 * quarter)
  rises_on = rising (at + 2 * quarter) (at + 3 * quarter) (omega (arith, some)) within

  none_passed : ssrc ≤ ssrc_in slots (at + quarter) → Reaches 0
  none_passed from = looser ssrc slots at (at + quarter) (at + 0) (at + 0 + (count - 3 * quarter))
      (lowered ssrc slots rising at (at + count) (at + quarter) so (omega (arith, within)) (omega arith) from)
      (omega arith) (omega (arith, all)) (omega (arith, all, high))

  one_passed : ssrc_in slots (at + quarter) < ssrc → ssrc ≤ ssrc_in slots (at + 2 * quarter) → Reaches quarter
  one_passed less from =
      let above = raised ssrc slots rising at (at + count) (at + quarter) so (omega (arith, within)) less in
      looser ssrc slots (at + quarter + 1) (at + 2 * quarter) (at + quarter)
      (at + quarter + (count - 3 * quarter))
      (lowered ssrc slots rising (at + quarter + 1) (at + count) (at + 2 * quarter) above (omega (arith, within))
      (omega (arith, some)) from) (omega arith) (omega (arith, all)) (omega (arith, all, high))

  two_passed : ssrc_in slots (at + 2 * quarter) < ssrc → ssrc ≤ ssrc_in slots (at + 3 * quarter) →
      Reaches (2 * quarter)
  two_passed less from =
      let above = raised ssrc slots rising at (at + count) (at + 2 * quarter) so (omega (arith, within)) less in
      looser ssrc slots (at + 2 * quarter + 1) (at + 3 * quarter) (at + 2 * quarter)
      (at + 2 * quarter + (count - 3 * quarter))
      (lowered ssrc slots rising (at + 2 * quarter + 1) (at + count) (at + 3 * quarter) above within
      (omega (arith, some)) from) (omega arith) (omega (arith, all)) (omega (arith, all, high))

  three_passed : ssrc_in slots (at + 3 * quarter) < ssrc → Reaches (3 * quarter)
  three_passed less =
      looser ssrc slots (at + 3 * quarter + 1) (at + count) (at + 3 * quarter)
      (at + 3 * quarter + (count - 3 * quarter))
      (raised ssrc slots rising at (at + count) (at + 3 * quarter) so within less)
      (omega arith) (omega (arith, all)) (omega (arith, all, high))

  pub quarters_passed : (first second third : ℕ) → Passes ssrc quarter (ssrc_in slots (at + quarter)) first →
      Passes ssrc quarter (ssrc_in slots (at + 2 * quarter)) second →
      Passes ssrc quarter (ssrc_in slots (at + 3 * quarter)) third → Reaches (first + second + third)
  quarters_passed first second third one two three =
      elim (cases_lt (ssrc_in slots (at + quarter)) ssrc) [
        | inr from ↦ subst Reaches (omega (
          arith,
          one.after from,
          two.after (omega (arith, from, rises)),
          three.after (omega (arith, from, rises, rises_on)),
        )) (none_passed from)
        | inl less ↦ elim (cases_lt (ssrc_in slots (at + 2 * quarter)) ssrc) [
          | inr from ↦ subst Reaches (omega (
            arith,
            one.before less,
            two.after from,
            three.after (omega (arith, from, rises_on)),
          )) (one_passed less from)
          | inl lesser ↦ elim (cases_lt (ssrc_in slots (at + 3 * quarter)) ssrc) [
            | inr from ↦ subst Reaches (omega (arith, one.before less, two.before lesser, three.after from))
                (two_passed lesser from)
            | inl least ↦ subst Reaches (omega (arith, one.before less, two.before lesser, three.before least))
                (three_passed least)
          ]
        ]
      ]
