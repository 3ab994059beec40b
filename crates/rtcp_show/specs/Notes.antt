-- What is kept of sources beside their table: their CNAMEs, and the round trips by their blocks.
use Rattle.std.specs.Prelude.{ℕ, not, Bool, List, [], ◌∷◌, map, filter, flat_map, if◌then◌else◌, nat_eq, Option, Some, None, option_map}
use Rattle.std.specs.Option.{option_map_or}
use Rattle.rtcp_clock.specs.Moments.{time_of_trip}
use Rattle.rtcp_wire.specs.About.{blocks_about}
use Rattle.rtcp_wire.specs.Facts.{is_cname}
use Rattle.rtcp_wire.specs.Values.{ChunkValue, ItemValue, ReportBlock, RtcpPacket, sdes}
use Rattle.rtcp_show.specs.Kept.{kept_of}
use Rattle.rtcp_show.specs.Listings.{if_listed}
use Rattle.rtcp_show.specs.declared.by_source.BySource.{BySource}
use Rattle.rtcp_show.specs.declared.notes.Note.{Note}

-- The CNAME of a source, and the round trip by its last block about the participant, in 1/65,536 of a second.
pub record NoteValue : Type 0 where
  pub cname : Option (List ℕ)
  pub trip : Option ℕ

abbrev pub note_value : Note → NoteValue
note_value note = record { cname = option_map (λ cname. cname.items) note.cname; trip = note.trip }

abbrev pub nothing : NoteValue
nothing = record { cname = None; trip = None }

-- what is noted of a source
abbrev pub noted_in : BySource Note → (ssrc : ℕ) → NoteValue
noted_in notes ssrc = option_map_or note_value (kept_of notes ssrc) nothing

-- ---- What a compound says

-- Of what is said of sources, one after the other, the newest that is said of one, or else what was known before.
abbrev pub newest_of : {A : Type 0} → (ssrc : ℕ) → List (ℕ × A) → (before : Option A) → Option A
newest_of ssrc [] before = before
newest_of ssrc (said ∷ later) before = newest_of ssrc later (if nat_eq said.0 ssrc then Some said.1 else before)

-- the CNAMEs among items of a source (RFC 3550, 6.5.1), each with the source
abbrev pub cnames_by : (ssrc : ℕ) → List ItemValue → List (ℕ × List ℕ)
cnames_by ssrc items = map (λ item. (ssrc, item.text)) (filter is_cname items)

abbrev pub cnames_of_chunk : ChunkValue → List (ℕ × List ℕ)
cnames_of_chunk chunk = cnames_by chunk.id chunk.items

abbrev pub cnames_of_packet : RtcpPacket → List (ℕ × List ℕ)
cnames_of_packet (sdes chunks) = flat_map cnames_of_chunk chunks
cnames_of_packet packet = []

abbrev pub cnames_of : List RtcpPacket → List (ℕ × List ℕ)
cnames_of packets = flat_map cnames_of_packet packets

-- A block names a sender report if its LSR is not 0 (6.4.1).
abbrev pub names_report : ReportBlock → Bool
names_report block = not (nat_eq block.lsr 0)

abbrev pub has_lsr : ℕ × ReportBlock → Bool
has_lsr reported = names_report reported.1

-- the round trip to who reports, by a block that arrived then (6.4.1)
abbrev pub trip_of : (arrived : ℕ) → ℕ × ReportBlock → ℕ × ℕ
trip_of arrived reported = (reported.0, time_of_trip arrived reported.1.lsr reported.1.dlsr)

-- the round trips by the blocks about the participant that name a sender report
abbrev pub trips_of : (arrived : ℕ) → List (ℕ × ReportBlock) → List (ℕ × ℕ)
trips_of arrived blocks = map (trip_of arrived) (filter has_lsr blocks)

-- ---- What is noted

abbrev pub with_trips : (arrived : ℕ) → List (ℕ × ReportBlock) → (ssrc : ℕ) → NoteValue → NoteValue
with_trips arrived blocks ssrc note = record note { trip = newest_of ssrc (trips_of arrived blocks) note.trip }

abbrev pub with_cnames : List (ℕ × List ℕ) → (ssrc : ℕ) → NoteValue → NoteValue
with_cnames cnames ssrc note = record note { cname = newest_of ssrc cnames note.cname }

-- What is noted of a source after a compound that arrived then, by the participant of this identifier. The moment of
-- arrival is the middle 32 bits of its NTP timestamp.
abbrev pub noted_after : (arrived own : ℕ) → List RtcpPacket → (ssrc : ℕ) → NoteValue → NoteValue
noted_after arrived own packets ssrc note =
    with_cnames (cnames_of packets) ssrc (with_trips arrived (blocks_about own packets) ssrc note)

-- Where the rows are due, what is noted of sources that are not listed is forgotten.
abbrev pub kept_if : (listed : Bool) → NoteValue → NoteValue
kept_if listed note = if listed then note else nothing

-- What is noted of a source after an event with which a compound came, and after which the rows are due or not.
abbrev pub note_after_event :
    (due listed : Bool) → (arrived own : ℕ) → List RtcpPacket → (ssrc : ℕ) → NoteValue → NoteValue
note_after_event due listed arrived own packets ssrc note =
    let noted = if_listed listed (noted_after arrived own packets ssrc) note in
    if due then kept_if listed noted else noted
