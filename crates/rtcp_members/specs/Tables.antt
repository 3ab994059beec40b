-- What a table of members holds, a finite map from SSRC to entry, and how it moves.
use Rattle.std.specs.Prelude.{ℕ, ◌≡◌, ◌-◌, ◌<◌, ◌≤◌, ◌^◌, ◌||◌, ◌&&◌, Bool, true, false, nat_lt, List, [], ◌∷◌, filter, filter_map, length, if◌then◌else◌, Option, Some, None, is_some, is_none, option_map, unwrap_or}
use Rattle.std.specs.Ordering.{nat_cmp}
use Rattle.std.specs.FinMap as map
use Rattle.rtcp_wire.specs.declared.fact.Fact.{Fact}
use Rattle.rtcp_wire.specs.declared.fact.Fact.TheVariants.{Heard, Told, Named, Gone, Media}
use Rattle.rtcp_clock.specs.Moments.{media_units}
use Rattle.rtcp_source.specs.Takings.{is_counted}
use Rattle.rtcp_source.specs.Summary.{SourceValue}
use Rattle.rtcp_source.specs.Steps.{no_source, taken_by, after_packet, after_report_came}
use Rattle.rtcp_members.specs.declared.table.Place.{Place}
use Rattle.rtcp_members.specs.declared.table.Place.TheVariants.{Kept, Added, NoRoom, Ignored, Left}
use Rattle.rtcp_wire.specs.Facts.{subject, is_gone}
use Rattle.rtcp_members.specs.Traces.{Horizons, TraceStep, horizons_at, names}
use Rattle.rtcp_members.specs.Stays.{is_removed}
use Rattle.rtcp_members.specs.Entries.{EntryValue, still_sending, entry_at, is_member, is_sender, is_such}

abbrev pub EntryMap : Type 0
EntryMap = map.FinMap nat_cmp EntryValue

pub record TableValue : Type 0 where
  -- how many entries it may hold
  pub capacity : ℕ
  pub entries : EntryMap

-- A table that another became has its capacity.
pub record KeepsBounds (old new : TableValue) : Type 0 where
  pub capacity : new.capacity ≡ old.capacity

-- ---- Facts

-- what is known of a source before the fact that adds it
abbrev pub new_entry : EntryValue
new_entry = record { valid = false; mark = None; sighting = 0; sending = None; source = no_source }

-- whether the fact is a packet that the source counts
abbrev pub counts : Fact → SourceValue → Bool
counts (Heard ssrc) source = false
counts (Told ssrc ntp rtp) source = false
counts (Named ssrc) source = false
counts (Gone ssrc) source = false
counts (Media ssrc seq timestamp octets rate) source = is_counted (taken_by source seq)

-- an entry without a mark, after a fact of its source
abbrev pub entry_after : Fact → (moment : ℕ) → EntryValue → EntryValue
entry_after (Heard ssrc) moment entry = record entry { sighting = moment }
entry_after (Told ssrc ntp rtp) moment entry =
    record entry { sighting = moment; source = after_report_came ntp rtp moment entry.source }
entry_after (Named ssrc) moment entry = record entry { valid = true; sighting = moment }
entry_after (Gone ssrc) moment entry = record entry { mark = Some moment }
entry_after (Media ssrc seq timestamp octets rate) moment entry =
    let counted = is_counted (taken_by entry.source seq) in
    record entry {
      valid = counted || entry.valid;
      sighting = moment;
      sending = (if counted then Some moment else entry.sending);
      source = after_packet seq timestamp (media_units moment rate) octets rate entry.source;
    }

-- an entry after a fact of its source: one with a mark stays as it is
abbrev pub entry_with_fact : Fact → (moment : ℕ) → EntryValue → EntryValue
entry_with_fact fact moment entry =
    if is_some entry.mark then entry else entry_after fact moment entry

-- What becomes of a fact, by the entry of its source, if it has one, and by whether there is room for one
-- more.
abbrev pub place_of : Fact → Option EntryValue → (room : Bool) → Place
place_of fact None room = if is_gone fact then Ignored else (if room then Added else NoRoom)
place_of fact (Some entry) room =
    if is_some entry.mark then Ignored else (if is_gone fact then Left else Kept)

abbrev pub changes : Place → Bool
changes Kept = true
changes Added = true
changes Left = true
changes NoRoom = false
changes Ignored = false

abbrev pub has_room : TableValue → Bool
has_room table = nat_lt (map.len table.entries) table.capacity

abbrev pub placed : TableValue → Fact → Place
placed table fact = place_of fact (map.get table.entries (subject fact)) (has_room table)

-- the entry that a fact finds, or a new one
abbrev pub entry_for : TableValue → Fact → EntryValue
entry_for table fact = unwrap_or (map.get table.entries (subject fact)) new_entry

-- Whether a fact is a packet that is counted: one that a source counts which is present and has no mark. (The
-- first packet of a source is not.)
abbrev pub counted_of : Fact → Option EntryValue → Bool
counted_of fact None = false
counted_of fact (Some entry) = is_none entry.mark && counts fact entry.source

abbrev pub counted : TableValue → Fact → Bool
counted table fact = counted_of fact (map.get table.entries (subject fact))

abbrev pub after_fact : Fact → (moment : ℕ) → TableValue → TableValue
after_fact fact moment table =
    if changes (placed table fact)
    then record table {
      entries = map.insert table.entries (subject fact) (entry_after fact moment (entry_for table fact));
    }
    else table

-- the table once these facts came at one moment, one after the other
abbrev pub after_facts : List Fact → (moment : ℕ) → TableValue → TableValue
after_facts [] moment table = table
after_facts (fact ∷ facts) moment table = after_facts facts moment (after_fact fact moment table)

-- A source is given fewer than 2^40 packets.
abbrev pub IsFew : EntryValue → Type 0
IsFew entry = entry.source.packets < 2 ^ 40

-- No source was given more packets than this.
abbrev pub HasFew : (packets : ℕ) → TableValue → Type 0
HasFew packets table =
    (ssrc : ℕ) (entry : EntryValue) → map.get table.entries ssrc ≡ Some entry → entry.source.packets ≤ packets

-- ---- Checks

-- An entry after a check, if it stays. One with a mark is only held until it is dropped.
abbrev pub entry_after_check : Horizons → EntryValue → Option EntryValue
entry_after_check horizons entry =
    if is_removed horizons entry.sighting entry.mark then None
    else Some (if is_some entry.mark then entry
    else record entry { sending = still_sending horizons entry.sending })

-- No key stands twice in the rows.
abbrev pub IsApart : List (ℕ × EntryValue) → Type 0
IsApart [] = Unit {0}
IsApart (row ∷ rows) = (map.find nat_cmp row.0 rows ≡ None) × IsApart rows

-- each entry as `step` leaves it, or dropped
abbrev pub updated_row : (EntryValue → Option EntryValue) → ℕ × EntryValue → Option (ℕ × EntryValue)
updated_row step row = option_map (λ entry. (row.0, entry)) (step row.1)

abbrev pub updated : (EntryValue → Option EntryValue) → EntryMap → EntryMap
updated step entries = map.from_entries (filter_map (updated_row step) (map.entries entries))

abbrev pub after_check : Horizons → TableValue → TableValue
after_check horizons table = record table { entries = updated (entry_after_check horizons) table.entries }

-- A check with these horizons leaves the table as it is, and so does one with earlier ones.
abbrev pub LastsThrough : Horizons → TableValue → Type 0
LastsThrough horizons table = (silent idle gone : ℕ) → silent ≤ horizons.silent → idle ≤ horizons.idle →
    gone ≤ horizons.gone → after_check (horizons_at silent idle gone) table ≡ table

-- ---- Sources that are gone

-- Whether the source did not send a BYE.
abbrev pub is_unmarked : EntryValue → Bool
is_unmarked entry = is_none entry.mark

-- The table once the host said that a source is gone: without its entry, if it has one without a mark.
abbrev pub after_forgetting : (ssrc : ℕ) → TableValue → TableValue
after_forgetting ssrc table =
    if is_such is_unmarked (map.get table.entries ssrc)
    then record table { entries = map.remove table.entries ssrc }
    else table

-- ---- Counts

abbrev pub count_in : (EntryValue → Bool) → TableValue → ℕ
count_in test table = length (filter (λ row. test row.1) (map.entries table.entries))

abbrev pub members_in : TableValue → ℕ
members_in = count_in is_member

abbrev pub senders_in : TableValue → ℕ
senders_in = count_in is_sender

-- How many fewer entries and senders there are after a check. It adds none of either (law
-- `counts_are_ordered`).
abbrev pub dropped_entries : Horizons → TableValue → ℕ
dropped_entries horizons table = map.len table.entries - map.len (after_check horizons table).entries

abbrev pub dropped_senders : Horizons → TableValue → ℕ
dropped_senders horizons table = senders_in table - senders_in (after_check horizons table)

-- ---- Tables and traces

abbrev pub no_members : (capacity : ℕ) → TableValue
no_members capacity = record { capacity = capacity; entries = map.empty }

-- A table equals the one computed from the whole trace, or *stands at* the trace, where it has for each
-- source the entry of the trace.
abbrev pub StandsAt : TableValue → List TraceStep → Type 0
StandsAt table trace = (ssrc : ℕ) → map.get table.entries ssrc ≡ entry_at table.capacity trace ssrc

-- The table of a trace: an entry for each source that is present.
abbrev pub row_at : (capacity : ℕ) → List TraceStep → (ssrc : ℕ) → Option (ℕ × EntryValue)
row_at capacity trace ssrc = option_map (λ entry. (ssrc, entry)) (entry_at capacity trace ssrc)

abbrev pub table_at : (capacity : ℕ) → List TraceStep → TableValue
table_at capacity trace =
    record {
      capacity = capacity;
      entries = map.from_entries (filter_map (row_at capacity trace) (names trace));
    }
