-- What the entries of a list say, in the values of the definitions.
use Rattle.std.specs.Prelude.{ℕ, ◌≡◌, Bool, false, List, map, length, filter, not, ◌&&◌, ◌≤◌, if◌then◌else◌, Option, Some, None, is_none, slice_get, option_map}
use Rattle.std.specs.List.{retain_mut}
use Rattle.std.specs.FinMap as finite
use Rattle.rtcp_source.specs.Views.{reception_value, last_report_value, last_block_value}
use Rattle.rtcp_members.specs.declared.entry.Entry.{Entry}
use Rattle.rtcp_members.specs.declared.state.SourceState.{SourceState}
use Rattle.rtcp_members.specs.Entries.{EntryValue}
use Rattle.rtcp_members.specs.Traces.{Horizons}
use Rattle.rtcp_members.specs.Stays.{is_before, is_removed}
use Rattle.rtcp_members.specs.Tables.{EntryMap, IsApart, TableValue}
use Rattle.rtcp_members.specs.Listings.{StateValue}

-- when an entry's source sent a BYE
abbrev pub mark_in : Entry → Option ℕ
mark_in e = if e.left then Some e.mark else None

-- the moment of an entry's last counted packet
abbrev pub sending_in : Entry → Option ℕ
sending_in e = if e.sends then Some e.sending else None

abbrev pub entry_value : Entry → EntryValue
entry_value e =
    record { valid = e.valid; mark = mark_in e; sighting = e.sighting; sending = sending_in e; source = e.source }

abbrev pub state_value : SourceState → StateValue
state_value s =
    record {
      ssrc = s.ssrc;
      member = s.is_member;
      sender = s.is_sender;
      left = s.left;
      heard = s.heard;
      reception = option_map reception_value s.reception;
      last_report = option_map last_report_value s.told;
      last_block = option_map last_block_value s.last_block;
    }

abbrev pub row_of : Entry → ℕ × EntryValue
row_of e = (e.ssrc, entry_value e)

abbrev pub rows_of : List Entry → List (ℕ × EntryValue)
rows_of entries = map row_of entries

abbrev pub map_of : List Entry → EntryMap
map_of entries = finite.from_entries (rows_of entries)

abbrev pub table_of : (capacity : ℕ) → List Entry → TableValue
table_of capacity entries = record { capacity = capacity; entries = map_of entries }

-- how many entries pass a test
abbrev pub tally_of : (EntryValue → Bool) → List Entry → ℕ
tally_of test entries = length (filter (λ (e : Entry). test (entry_value e)) entries)

-- what an entry adds to that number
abbrev pub weight_of : (EntryValue → Bool) → Entry → ℕ
weight_of test e = if test (entry_value e) then 1 else 0

-- whether a check ends an entry's sending
abbrev pub lapses : (idle : ℕ) → Entry → Bool
lapses idle e = is_none (mark_in e) && is_before (sending_in e) idle

-- an entry that stays, after a check
abbrev pub lapsed : (idle : ℕ) → Entry → Entry
lapsed idle e = if lapses idle e then record e { sends = false } else e

abbrev pub outlasts : Horizons → Entry → Bool
outlasts horizons e = not (is_removed horizons e.sighting (mark_in e))

-- what a check leaves of entries
abbrev pub checked : Horizons → List Entry → List Entry
checked horizons = retain_mut (outlasts horizons) (lapsed horizons.idle)

-- whether a check leaves an entry as it is
abbrev pub is_left : Horizons → Entry → Bool
is_left horizons e = not (lapses horizons.idle e) && outlasts horizons e

-- A source's entry stands here, and is the one that the map has.
pub record IsRankOf (ssrc : ℕ) (entries : List Entry) (at : ℕ) : Type 0 where
  pub entry : Entry
  pub stands : slice_get entries at ≡ Some entry
  pub its_ssrc : entry.ssrc ≡ ssrc
  pub found : finite.get (map_of entries) ssrc ≡ Some (entry_value entry)

-- What holds of a table's list: no SSRC stands in it twice, and it is no longer than the capacity, which it
-- has room for.
pub record IsListed (capacity : ℕ) (entries : List Entry) : Type 0 where
  pub apart : IsApart (rows_of entries)
  pub within : length entries ≤ capacity
  pub room : capacity ≤ 1024
