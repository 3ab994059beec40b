-- A search among SSRCs that rise: of slots side by side, and of entries.
use Rattle.std.proofs.Common.{◌<◌, ◌≤◌, ◌+◌, ℕ, List, length, inl, inr, arith, subst}
use Rattle.std.proofs.lemmas.Bool.{cases_lt}
use Rattle.rtcp_members.specs.declared.cells.Slot.{Slot}
use Rattle.rtcp_members.specs.storage.Index.{ssrc_in, AreRising, IsHalved}

-- Ends may lie further apart.
pub looser : (ssrc : ℕ) (slots : List Slot) (low high lower higher : ℕ) → IsHalved ssrc slots low high →
    lower ≤ low → high ≤ higher → higher ≤ length slots → IsHalved ssrc slots lower higher
looser ssrc slots low high lower higher so before after within = record {
  order = omega (arith, so.order, before, after);
  within = within;
  lesser = λ k early. so.lesser k (omega (arith, early, before));
  rest = λ k late. so.rest k (omega (arith, late, after));
}

-- What is seen before the source, or from it on, lets the ends come nearer.
module _ (ssrc : ℕ) (slots : List Slot) (rising : AreRising slots) (low high middle : ℕ)
    (so : IsHalved ssrc slots low high) (within : middle < length slots) where
  pub raised : ssrc_in slots middle < ssrc → IsHalved ssrc slots (middle + 1) high
  raised less = record { order = order; within = so.within; lesser = lesser; rest = so.rest }
    where
      order : middle + 1 ≤ high
      order = elim (cases_lt middle high) [
        | inl before ↦ omega (arith, before)
        | inr from ↦ absurd (omega (arith, less, so.rest middle from within))
      ]

      lesser : (k : ℕ) → k < middle + 1 → ssrc_in slots k < ssrc
      lesser k early = elim (cases_lt k middle) [
        | inl before ↦ omega (arith, less, rising k middle before within)
        | inr from ↦ subst (λ n. ssrc_in slots n < ssrc) (omega (arith, early, from)) less
      ]

  pub lowered : low ≤ middle → ssrc ≤ ssrc_in slots middle → IsHalved ssrc slots low middle
  lowered above least = record { order = above; within = omega (arith, within); lesser = so.lesser; rest = rest }
    where
      rest : (k : ℕ) → middle ≤ k → k < length slots → ssrc ≤ ssrc_in slots k
      rest k late in_list = elim (cases_lt middle k) [
        | inl after ↦ omega (arith, least, rising middle k after in_list)
        | inr until ↦ subst (λ n. ssrc ≤ ssrc_in slots n) (omega (arith, late, until)) least
      ]
