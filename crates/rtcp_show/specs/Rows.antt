-- The row of a source, as `rtcp listen --show` writes it. `told` is how a moment is written.
use Rattle.std.specs.Prelude.{ℕ, ◌*◌, ◌/◌, Bool, true, false, List, [], ◌∷◌, ◌++◌, max, if◌then◌else◌, Option, Some, None, codes}
use Rattle.std.specs.Fmt.{decimal, signed_decimal}
use Rattle.std.specs.List.{flat_map}
use Rattle.rtcp_source.specs.LastBlocks.{LastBlockValue}
use Rattle.rtcp_source.specs.Receptions.{ReceptionValue}
use Rattle.rtcp_members.specs.Listings.{StateValue}
use Rattle.rtcp_text.specs.Text.{hex_word}
use Rattle.rtcp_show.specs.Notes.{NoteValue}
use Rattle.rtcp_plain.specs.Numbers.{fixed_text, quoted_text, time_text}
use Rattle.rtcp_show.specs.Numbers.{moment_text, peer_text}
use Rattle.rtcp_show.specs.declared.flows.Flow.{Flow}

-- ---- Parts

abbrev pub sends_text : Bool → List ℕ
sends_text true = codes " sends=yes"
sends_text false = codes " sends=no"

-- A source that is no member has left, or is not yet valid.
abbrev pub left_text : (told : ℕ → List ℕ) → Option ℕ → List ℕ
left_text told None = codes " valid=no"
left_text told (Some moment) = codes " left=" ++ told moment

abbrev pub standing_text : (told : ℕ → List ℕ) → StateValue → List ℕ
standing_text told state = sends_text state.sender ++ (if state.member then [] else left_text told state.left)

-- Jitter is in units of the clock of the newest packet, which has at least one a second.
abbrev pub reception_text : Option ReceptionValue → List ℕ
reception_text None = []
reception_text (Some reception) =
    codes " packets=" ++ decimal reception.received ++ codes " lost=" ++ signed_decimal reception.lost
    ++ codes " jitter=" ++ time_text (reception.jitter * 1000000 / max reception.rate 1)

abbrev pub trip_text : Option ℕ → List ℕ
trip_text None = []
trip_text (Some trip) = codes " round-trip=" ++ time_text (trip * 1000000 / 65536)

abbrev pub cname_text : Option (List ℕ) → List ℕ
cname_text None = []
cname_text (Some cname) = codes " cname=" ++ quoted_text cname

-- ---- Rows

abbrev pub facts_text : (told : ℕ → List ℕ) → StateValue → NoteValue → List ℕ
facts_text told state note =
    codes "source=" ++ hex_word state.ssrc ++ standing_text told state ++ reception_text state.reception
    ++ trip_text note.trip ++ cname_text note.cname

-- with moments in seconds
abbrev pub row_text : StateValue → NoteValue → List ℕ
row_text state note = facts_text moment_text state note ++ 10 ∷ []

-- ---- How packets come, after these facts

-- a word, and tenths with what they are tenths of
abbrev pub tenths_text : (word : List ℕ) → Option ℕ → (unit : List ℕ) → List ℕ
tenths_text word None unit = []
tenths_text word (Some tenths) unit = word ++ fixed_text 10 tenths ++ unit

-- the fraction lost of the last block that was made of the source, in 1/256
abbrev pub interval_text : Option LastBlockValue → List ℕ
interval_text None = []
interval_text (Some block) = codes " interval-loss=" ++ fixed_text 10 (block.fraction * 1000 / 256) ++ codes "%"

-- That of RTP comes first.
abbrev pub origin_text : (rtp rtcp : Option ℕ) → List ℕ
origin_text (Some peer) rtcp = codes " peer=" ++ peer_text peer
origin_text None (Some peer) = codes " peer=" ++ peer_text peer
origin_text None None = []

abbrev pub flow_text : StateValue → Flow → List ℕ
flow_text state flow =
    tenths_text (codes " total-loss=") flow.loss (codes "%") ++ interval_text state.last_block
    ++ tenths_text (codes " pace=") flow.packet_rate (codes "/s") ++ origin_text flow.rtp_peer flow.rtcp_peer

abbrev pub full_row_text : (told : ℕ → List ℕ) → StateValue → NoteValue → Flow → List ℕ
full_row_text told state note flow = facts_text told state note ++ flow_text state flow ++ 10 ∷ []

abbrev pub counts_text : (members senders : ℕ) → List ℕ
counts_text members senders = codes "members=" ++ decimal members ++ codes " senders=" ++ decimal senders ++ 10 ∷ []

-- the counts, and a row for each source, with what is noted of it
abbrev pub sources_text : (told : ℕ → List ℕ) → (members senders : ℕ) → (note : ℕ → NoteValue) → (flow : ℕ → Flow) →
    List StateValue → List ℕ
sources_text told members senders note flow states =
    counts_text members senders
    ++ flat_map (λ state. full_row_text told state (note state.ssrc) (flow state.ssrc)) states
