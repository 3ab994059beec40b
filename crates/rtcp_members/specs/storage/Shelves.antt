-- Entries by rising SSRC on a shelf, and the cells in which they lie.
use Rattle.std.specs.Prelude.{ℕ, Bool, not, ◌≡◌, ◌==◌, ◌&&◌, ◌≤◌, List, set, slice_index_or, Option, Some}
use Rattle.std.specs.List.{insert}
use Rattle.std.specs.Borrow.{Lends, Fml, RattleType, MutBor, Array}
use Rattle.rtcp_wire.specs.declared.fact.Fact.{Fact}
use Rattle.rtcp_wire.specs.Facts.{subject}
use Rattle.rtcp_wire.specs.Values.{ReportBlock}
use Rattle.rtcp_wire.specs.Writing.{IsWritableBlock}
use Rattle.rtcp_source.specs.Blocks.{block_for}
use Rattle.rtcp_members.specs.declared.cells.Cell.{Cell}
use Rattle.rtcp_members.specs.declared.cells.Slot.{Slot}
use Rattle.rtcp_members.specs.declared.entry.Entry.{Entry}
use Rattle.rtcp_members.specs.declared.counts.Counts.{Counts}
use Rattle.rtcp_members.specs.declared.table.Effect.{Effect}
use Rattle.rtcp_members.specs.Pending.{reported_entry}
use Rattle.rtcp_members.specs.storage.Standing.{AreCounts}
use Rattle.rtcp_members.specs.Tables.{counted_of, entry_after, entry_with_fact, new_entry, place_of}
use Rattle.rtcp_members.specs.Entries.{EntryValue, is_member, is_sender}
use Rattle.rtcp_members.specs.ListViews.{entry_value, tally_of}
use Rattle.rtcp_members.specs.storage.Heaps.{in_order, IsIndexed}
use denote.RawPtr.{Ptr}

-- The entries in order, how many there is room for, and the blocks of memory that they and their index lie in, where
-- these lie in some of their own.
pub record ShelfValue : Type 0 where
  pub items : List Entry
  pub room : ℕ
  pub block : Option Ptr
  pub index_block : Option Ptr

-- There is as much room as before, in the same blocks.
pub record LieAsBefore (old new : ShelfValue) : Type 0 where
  pub room : new.room ≡ old.room
  pub block : new.block ≡ old.block
  pub index : new.index_block ≡ old.index_block

-- Cells with an index, of which the first slots are those in use, by rising SSRC, and whose entries are counted.
pub record IsCounted (cells : List Cell) (slots : List Slot) (used : ℕ) (counts : Counts) : Type 0 where
  pub index : IsIndexed cells slots used
  pub counted : AreCounts counts (in_order cells slots used)

-- What holds of a shelf: there is room for a slot of each cell.
pub record IsShelf (cells : List Cell) (slots : List Slot) (used room index_room : ℕ) (counts : Counts) : Type 0 where
  pub kept : IsCounted cells slots used counts
  pub few : room ≤ 1024
  pub indexed : room ≤ index_room

-- The entry of a rank becomes another one of the same source, of which the value is changed so.
pub record IsChanged (change : EntryValue → EntryValue) (entries next : List Entry) (at : ℕ) : Type 0 where
  pub entry : Entry
  pub items : next ≡ set entries at entry
  pub ssrc : (d : Entry) → entry.ssrc ≡ (slice_index_or entries at d).ssrc
  pub value : (d : Entry) → entry_value entry ≡ change (entry_value (slice_index_or entries at d))

-- Whether there are not as many members, or not as many senders.
abbrev pub tallies_differ : (entries next : List Entry) → Bool
tallies_differ entries next = not ((tally_of is_member next == tally_of is_member entries)
    && (tally_of is_sender next == tally_of is_sender entries))

-- What a fact makes of the entry of a rank, and what is returned of it.
pub record TakesFact (fact : Fact) (moment : ℕ) (entries next : List Entry) (at : ℕ) (effect : Effect) :
    Type 0 where
  pub changed : IsChanged (entry_with_fact fact moment) entries next at
  pub place : (d : Entry) (room : Bool) →
      effect.applied.place ≡ place_of fact (Some (entry_value (slice_index_or entries at d))) room
  pub counted : (d : Entry) →
      effect.applied.counted ≡ counted_of fact (Some (entry_value (slice_index_or entries at d)))
  pub moved : effect.moved ≡ tallies_differ entries next

-- An entry for the source of a fact is put into a gap, as the fact makes it.
pub record Joins (fact : Fact) (moment : ℕ) (entries next : List Entry) (gap : ℕ) : Type 0 where
  pub entry : Entry
  pub ssrc : entry.ssrc ≡ subject fact
  pub value : entry_value entry ≡ entry_after fact moment new_entry
  pub items : next ≡ insert entries gap entry

-- A block is made of the source of a rank.
pub record MakesBlock (moment : ℕ) (entries next : List Entry) (at : ℕ) (value : ReportBlock) : Type 0 where
  pub changed : IsChanged reported_entry entries next at
  pub block : (d : Entry) →
      Some value ≡ block_for (slice_index_or entries at d).ssrc moment (slice_index_or entries at d).source
  pub writable : IsWritableBlock value

-- once the borrow r ends, s has the values that r shows last
abbrev pub LendsRow : (S T : RattleType) → MutBor S.Denot → MutBor (List T.Denot) →
    (S.Denot → List T.Denot → S.Denot) → Fml
LendsRow S T s r with_row = Lends S (Array T 0) s r (with_row s.now)
