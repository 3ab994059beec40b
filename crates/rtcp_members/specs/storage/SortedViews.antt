-- Lists of entries by rising SSRC.
use Rattle.std.specs.Prelude.{ℕ, ◌≡◌, ◌<◌, ◌≤◌, T, IsTrue, not, filter, take, drop, Option, Some, None, List, length, Result, Ok, Err, slice_index_or}
use Rattle.std.specs.Ordering.{nat_cmp}
use Rattle.std.specs.FinMap as finite
use Rattle.rtcp_members.specs.declared.entry.Entry.{Entry}
use Rattle.rtcp_members.specs.Pending.{EntryRow, first_ssrc, is_above, is_due}
use Rattle.rtcp_members.specs.ListViews.{entry_value, rows_of, IsRankOf}

-- The SSRCs strictly rise.
abbrev pub IsRising : List Entry → Type 0
IsRising entries = T (finite.is_sorted nat_cmp (rows_of entries))

-- What holds of a sorted table's list: the SSRCs rise, and it is no longer than the capacity, which it has room for.
pub record IsSortedTable (capacity : ℕ) (entries : List Entry) : Type 0 where
  pub rising : IsRising entries
  pub within : length entries ≤ capacity
  pub room : capacity ≤ 1024

-- A source has no entry, and one would stand here: after each lesser SSRC, and before each greater one.
pub record IsGapFor (ssrc : ℕ) (entries : List Entry) (at : ℕ) : Type 0 where
  pub in_range : at ≤ length entries
  pub lesser : (i : ℕ) (d : Entry) → i < at → (slice_index_or entries i d).ssrc < ssrc
  pub greater : (i : ℕ) (d : Entry) → at ≤ i → i < length entries → ssrc < (slice_index_or entries i d).ssrc

-- The rows of the entries before a rank are not above, and the others are.
pub record CutsAbove (last : Option ℕ) (entries : List Entry) (rank : ℕ) : Type 0 where
  pub bound : rank ≤ length entries
  pub rest : filter (is_above last) (rows_of entries) ≡ rows_of (drop rank entries)
  pub before : filter (λ row. not (is_above last row)) (rows_of entries) ≡ rows_of (take rank entries)

-- What a search of a source comes to: its rank, or else the gap where it would stand.
abbrev pub Locates : (ssrc : ℕ) → List Entry → Result ℕ ℕ → Type 0
Locates ssrc entries (Ok rank) = IsRankOf ssrc entries rank
Locates ssrc entries (Err gap) = IsGapFor ssrc entries gap

-- The first of these rows is of the source that stands at a rank, and a block of it is due.
pub record IsFirstDue (rows : List EntryRow) (entries : List Entry) (at : ℕ) : Type 0 where
  pub ssrc : ℕ
  pub first : Some ssrc ≡ first_ssrc rows
  pub place : IsRankOf ssrc entries at
  pub due : (d : Entry) → IsTrue (is_due (entry_value (slice_index_or entries at d)))

-- What a search of the first row's source comes to: its rank, or nothing where there is no row.
abbrev pub RanksFirst : List EntryRow → List Entry → Option ℕ → Type 0
RanksFirst rows entries None = None ≡ first_ssrc rows
RanksFirst rows entries (Some at) = IsFirstDue rows entries at
