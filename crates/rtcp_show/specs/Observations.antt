-- What a printer knows of sources by all that it was told.
use Rattle.std.specs.Prelude.{◌≡◌, ℕ, Bool, List, [], ◌∷◌, ◌++◌, if◌then◌else◌, Option, None}
use Rattle.rtcp_engine.specs.answers.Acts.{EventValue}
use Rattle.rtcp_engine.specs.answers.Histories.{History, setup_at}
use Rattle.rtcp_guarded.specs.Guarded.{GuardedAnswer}
use Rattle.rtcp_wire.specs.About.{blocks_about}
use Rattle.rtcp_wire.specs.Values.{RtcpPacket}
use Rattle.rtcp_show.specs.declared.flows.Flow.{Flow}
use Rattle.rtcp_show.specs.declared.printer.Printer.{Printer}
use Rattle.rtcp_show.specs.Flows.{IsMediaOf, elapsed_since, flow_after_event, no_flow, peer_of_event}
use Rattle.rtcp_show.specs.Lines.{HasPackets, moment_of_event}
use Rattle.rtcp_show.specs.Listings.{lists, state_at}
use Rattle.rtcp_show.specs.Notes.{NoteValue, cnames_of, newest_of, note_after_event, nothing, trips_of}
use Rattle.rtcp_show.specs.Watchers.{arrival_at, flow_by, is_due, looked_of, noted_by, second_after, second_of, terms_of}

-- What a printer is told at once: an event, its answer, and the participant after it, by its history. With it come the
-- packets of the datagram that was taken, or whose RTP packet was, if one was.
pub record Observation : Type 0 where
  pub event : EventValue
  pub answer : GuardedAnswer
  pub history : History
  pub packets : List RtcpPacket
  pub media : Option ℕ

-- The datagram says so.
pub record IsRead (seen : Observation) : Type 0 where
  pub packets : HasPackets seen.event seen.answer seen.packets
  pub media : IsMediaOf seen.event seen.answer seen.media

abbrev pub moment_in : Observation → ℕ
moment_in seen = moment_of_event seen.event

-- ---- By all observations, newest first

-- the last second in which the rows were due
abbrev pub last_second : List Observation → ℕ
last_second [] = 0
last_second (seen ∷ earlier) = second_after (last_second earlier) (moment_in seen)

-- The rows are due with an observation.
abbrev pub are_due : Observation → (earlier : List Observation) → Bool
are_due seen earlier = is_due (last_second earlier) (moment_in seen)

-- the moment at which they were due last
abbrev pub last_look : List Observation → ℕ
last_look [] = 0
last_look (seen ∷ earlier) = if are_due seen earlier then moment_in seen else last_look earlier

-- the CNAME of a source, and its round trip, in a session that began at this NTP timestamp
abbrev pub note_of : (ntp_base : ℕ) → List Observation → (ssrc : ℕ) → NoteValue
note_of ntp_base [] ssrc = nothing
note_of ntp_base (seen ∷ earlier) ssrc =
    note_after_event (are_due seen earlier) (lists seen.history ssrc) (arrival_at ntp_base (moment_in seen))
    (setup_at seen.history).ssrc seen.packets ssrc (note_of ntp_base earlier ssrc)

-- What came while a source was listed, since the rows were due last without it: newest first.
abbrev pub heard_of : List Observation → (ssrc : ℕ) → List Observation
heard_of [] ssrc = []
heard_of (seen ∷ earlier) ssrc =
    let heard = heard_of earlier ssrc in
    if lists seen.history ssrc then seen ∷ heard else (if are_due seen earlier then [] else heard)

-- the CNAMEs that came, oldest first
abbrev pub cnames_heard : List Observation → List (ℕ × List ℕ)
cnames_heard [] = []
cnames_heard (seen ∷ earlier) = cnames_heard earlier ++ cnames_of seen.packets

-- the round trips by the blocks about the participant that came, oldest first
abbrev pub trips_heard : (ntp_base : ℕ) → List Observation → List (ℕ × ℕ)
trips_heard ntp_base [] = []
trips_heard ntp_base (seen ∷ earlier) =
    trips_heard ntp_base earlier
    ++ trips_of (arrival_at ntp_base (moment_in seen)) (blocks_about (setup_at seen.history).ssrc seen.packets)

-- A note of a source by what came: its newest CNAME, and its newest round trip.
abbrev pub newest_note : (ntp_base : ℕ) → List Observation → (ssrc : ℕ) → NoteValue
newest_note ntp_base heard ssrc = record {
  cname = newest_of ssrc (cnames_heard heard) None;
  trip = newest_of ssrc (trips_heard ntp_base heard) None;
}

-- how its packets come, and from where
abbrev pub flow_of : List Observation → (ssrc : ℕ) → Flow
flow_of [] ssrc = no_flow
flow_of (seen ∷ earlier) ssrc =
    flow_after_event (are_due seen earlier) (elapsed_since (last_look earlier) (moment_in seen))
    (state_at seen.history ssrc) (peer_of_event seen.event) seen.packets seen.media ssrc
    (flow_of earlier ssrc)

-- ---- Of a printer

-- A printer knows what follows from these observations.
pub record Knows {W : Type 0} (printer : Printer W) (all : List Observation) : Type 0 where
  pub second : second_of printer ≡ last_second all
  pub looked : looked_of printer ≡ last_look all
  pub notes : (ssrc : ℕ) → noted_by printer ssrc ≡ note_of (terms_of printer).ntp_base all ssrc
  pub flows : (ssrc : ℕ) → flow_by printer ssrc ≡ flow_of all ssrc
