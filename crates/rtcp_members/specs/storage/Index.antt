-- Slots by rising SSRC, and where a source stands among them.
use Rattle.std.specs.Prelude.{ℕ, ◌≡◌, ◌<◌, ◌≤◌, List, length, slice_index_or, Result, Ok, Err}
use Rattle.rtcp_members.specs.declared.cells.Slot.{Slot}
use Rattle.rtcp_members.specs.storage.Heaps.{no_slot}

-- the SSRC of a rank
abbrev pub ssrc_in : List Slot → ℕ → ℕ
ssrc_in slots rank = (slice_index_or slots rank no_slot).ssrc

-- The SSRCs strictly rise.
abbrev pub AreRising : List Slot → Type 0
AreRising slots = (i j : ℕ) → i < j → j < length slots → ssrc_in slots i < ssrc_in slots j

-- The SSRCs before a rank are lesser, and none from another rank on.
pub record IsHalved (ssrc : ℕ) (slots : List Slot) (low high : ℕ) : Type 0 where
  pub order : low ≤ high
  pub within : high ≤ length slots
  pub lesser : (k : ℕ) → k < low → ssrc_in slots k < ssrc
  pub rest : (k : ℕ) → high ≤ k → k < length slots → ssrc ≤ ssrc_in slots k

-- A source has no slot, and one would stand here: after each lesser SSRC, and before each greater one.
pub record IsGapAmong (ssrc : ℕ) (slots : List Slot) (gap : ℕ) : Type 0 where
  pub within : gap ≤ length slots
  pub lesser : (k : ℕ) → k < gap → ssrc_in slots k < ssrc
  pub greater : (k : ℕ) → gap ≤ k → k < length slots → ssrc < ssrc_in slots k

-- A source has a slot here.
abbrev pub IsSlotOf : (ssrc : ℕ) → List Slot → (rank : ℕ) → Type 0
IsSlotOf ssrc slots rank = (rank < length slots) × (ssrc_in slots rank ≡ ssrc)

-- What a search of a source comes to: its rank, or else the gap where it would stand.
abbrev pub Finds : (ssrc : ℕ) → List Slot → Result ℕ ℕ → Type 0
Finds ssrc slots (Ok rank) = IsSlotOf ssrc slots rank
Finds ssrc slots (Err gap) = IsGapAmong ssrc slots gap
