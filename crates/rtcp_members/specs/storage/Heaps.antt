-- Entries that stay where they are, and an index of them by rising SSRC.
use Rattle.std.specs.Prelude.{ℕ, ◌≡◌, ◌<◌, ◌≤◌, ◌==◌, ◌+◌, ◌-◌, false, List, [], length, map, set, take, All, slice_index_or}
use Rattle.std.specs.List.{count_by, remove}
use Rattle.rtcp_members.specs.declared.entry.Entry.{Entry}
use Rattle.rtcp_members.specs.declared.cells.Cell.{Cell}
use Rattle.rtcp_members.specs.declared.cells.Slot.{Slot}
use Rattle.rtcp_source.specs.Steps.{no_source}
use Rattle.rtcp_members.specs.storage.SortedViews.{IsRising}

-- what is read where there is none
abbrev pub no_slot : Slot
no_slot = record { ssrc = 0; place = 0 }

abbrev pub no_entry : Entry
no_entry =
    record {
      ssrc = 0;
      valid = false;
      left = false;
      sends = false;
      mark = 0;
      sighting = 0;
      sending = 0;
      source = no_source;
    }

abbrev pub no_cell : Cell
no_cell = record { entry = no_entry; hints = [] }

abbrev pub entries_in : List Cell → List Entry
entries_in cells = map (λ (cell : Cell). cell.entry) cells

-- the entry of a slot
abbrev pub entry_in : List Entry → Slot → Entry
entry_in entries slot = slice_index_or entries slot.place no_entry

abbrev pub picked : List Entry → List Slot → List Entry
picked entries slots = map (entry_in entries) slots

-- the entries of the first slots, by rank
abbrev pub in_order : List Cell → List Slot → ℕ → List Entry
in_order cells slots used = picked (entries_in cells) (take used slots)

-- slots of which two have changed places
abbrev pub exchanged : List Slot → (one other : ℕ) → List Slot
exchanged slots one other =
    set (set slots one (slice_index_or slots other no_slot)) other (slice_index_or slots one no_slot)

abbrev pub place_at : List Slot → ℕ → ℕ
place_at slots at = (slice_index_or slots at no_slot).place

-- A slot has the SSRC of its entry.
abbrev pub IsKeyed : List Entry → Slot → Type 0
IsKeyed entries slot = slot.ssrc ≡ (entry_in entries slot).ssrc

-- No two slots have the same place, and there is something at each.
pub record ArePlaces (entries : List Entry) (slots : List Slot) : Type 0 where
  pub within : All (λ (slot : Slot). slot.place < length entries) slots
  pub apart : (place : ℕ) → count_by (λ (slot : Slot). slot.place == place) slots ≤ 1

-- What holds of entries, of which the first slots are those in use: each place has a slot, and those in use have
-- the SSRCs of their entries.
pub record IsHeap (entries : List Entry) (slots : List Slot) (used : ℕ) : Type 0 where
  pub places : ArePlaces entries slots
  pub in_use : used ≤ length slots
  pub all : length slots ≡ length entries
  pub keyed : All (IsKeyed entries) (take used slots)
  pub few : length entries ≤ 1024

-- Cells with an index, of which the first slots are those in use, by rising SSRC.
pub record IsIndexed (cells : List Cell) (slots : List Slot) (used : ℕ) : Type 0 where
  pub heap : IsHeap (entries_in cells) slots used
  pub rising : IsRising (in_order cells slots used)

-- An entry is laid at a place that no slot has, and what the slots have stays.
pub record IsPut (entries next : List Entry) (slots new_slots : List Slot) (used place : ℕ) (entry : Entry) :
    Type 0 where
  pub same : All (λ (slot : Slot). entry_in next slot ≡ entry_in entries slot) new_slots
  pub there : slice_index_or next place no_entry ≡ entry
  pub places : ArePlaces next new_slots
  pub within : place < length next
  pub free : count_by (λ (slot : Slot). slot.place == place) new_slots ≡ 0
  pub in_use : used ≤ length new_slots
  pub all : length new_slots + 1 ≡ length next
  pub taken : take used new_slots ≡ take used slots

-- A slot has come behind the others in use. What lies by them is as before, but for that of its place.
pub record IsMovedBehind (slots next : List Slot) (used at : ℕ) : Type 0 where
  pub as_many : length next ≡ length slots
  pub others : remove (take used slots) at ≡ take (used - 1) next
  pub heap : (entries : List Entry) → IsHeap entries slots used → IsHeap entries next used
