-- The short rows of a session's sources, as `rtcp listen --show --rows N` writes them: of the N worst, one line each.
use Rattle.std.specs.Prelude.{ℕ, ◌*◌, ◌/◌, ◌&&◌, ◌||◌, Bool, List, [], ◌∷◌, ◌++◌, map, max, count_by, take, length, if◌then◌else◌, nat_eq, nat_lt, Option, Some, None, option_map, codes}
use Rattle.std.specs.Fmt.{decimal}
use Rattle.std.specs.List.{flat_map}
use Rattle.std.specs.Option.{option_map_or}
use Rattle.rtcp_source.specs.LastBlocks.{LastBlockValue}
use Rattle.rtcp_source.specs.Receptions.{ReceptionValue}
use Rattle.rtcp_members.specs.Listings.{StateValue}
use Rattle.rtcp_text.specs.Text.{hex_word}
use Rattle.rtcp_plain.specs.Numbers.{time_text}
use Rattle.rtcp_show.specs.Notes.{NoteValue}
use Rattle.rtcp_show.specs.Rows.{cname_text, origin_text, sources_text, tenths_text, trip_text}
use Rattle.rtcp_show.specs.declared.flows.Flow.{Flow}
use Rattle.rtcp_show.specs.declared.rows.Rows.{Rows}
use Rattle.rtcp_show.specs.declared.rows.Rows.TheVariants.{Full, Short}
use Rattle.rtcp_show.specs.declared.short_rows.Rank.{Rank}

-- ---- Which sources are shown

-- the fraction lost of the last block that was made of a source, in 1/256, or 0 where none was; and its SSRC
abbrev pub rank_of : StateValue → Rank
rank_of state = record {
  fraction = option_map_or (λ block. block.fraction) state.last_block 0;
  ssrc = state.ssrc;
}

-- A source is worse than another if more of its packets were lost, or as many and its SSRC is lower.
abbrev pub is_worse : (one other : Rank) → Bool
is_worse one other =
    nat_lt other.fraction one.fraction || (nat_eq one.fraction other.fraction && nat_lt one.ssrc other.ssrc)

-- how many of these are worse than one
abbrev pub worse_than : (one : Rank) → List Rank → ℕ
worse_than one ranks = count_by (λ other. is_worse other one) ranks

-- A source is shown if fewer than so many are worse.
abbrev pub is_shown : (most : ℕ) → List Rank → Rank → Bool
is_shown most ranks one = nat_lt (worse_than one ranks) most

abbrev pub shown_count : (most : ℕ) → List Rank → ℕ
shown_count most ranks = count_by (is_shown most ranks) ranks

-- ---- The counts

-- how many are shown, where not all are
abbrev pub shown_text : (shown all : ℕ) → List ℕ
shown_text shown all = if nat_lt shown all then codes " shown=" ++ decimal shown else []

abbrev pub short_counts_text : (members senders shown all : ℕ) → List ℕ
short_counts_text members senders shown all =
    codes "members=" ++ decimal members ++ codes " senders=" ++ decimal senders ++ shown_text shown all ++ 10 ∷ []

-- ---- A row

-- what a source is, if it has left or not
abbrev pub past_text : (left : Option ℕ) → List ℕ
past_text None = codes " invalid"
past_text (Some moment) = codes " left"

abbrev pub role_text : StateValue → List ℕ
role_text state =
    if state.sender then codes " sends" else (if state.member then codes " member" else past_text state.left)

-- the fraction lost of the last block that was made of a source, in tenths of a per cent
abbrev pub fraction_tenths : Option LastBlockValue → Option ℕ
fraction_tenths block = option_map (λ block. block.fraction * 1000 / 256) block

abbrev pub jitter_text : Option ReceptionValue → List ℕ
jitter_text None = []
jitter_text (Some reception) =
    codes " jitter=" ++ time_text (reception.jitter * 1000000 / max reception.rate 1)

abbrev pub losses_text : StateValue → Flow → List ℕ
losses_text state flow =
    tenths_text (codes " loss=") (fraction_tenths state.last_block) (codes "%")
    ++ tenths_text (codes " total-loss=") flow.loss (codes "%")

abbrev pub short_facts_text : StateValue → NoteValue → Flow → List ℕ
short_facts_text state note flow =
    hex_word state.ssrc ++ role_text state ++ losses_text state flow ++ jitter_text state.reception
    ++ trip_text note.trip ++ tenths_text (codes " pace=") flow.packet_rate (codes "/s")
    ++ origin_text flow.rtp_peer flow.rtcp_peer ++ cname_text note.cname

-- A line of more than 100 octets ends with three points after the first 97.
abbrev pub cut_text : List ℕ → List ℕ
cut_text line = if nat_lt 100 (length line) then take 97 line ++ codes "..." else line

abbrev pub short_row_text : StateValue → NoteValue → Flow → List ℕ
short_row_text state note flow = cut_text (short_facts_text state note flow) ++ 10 ∷ []

-- ---- All

abbrev pub shown_row_text : (most : ℕ) → List Rank → (note : ℕ → NoteValue) → (flow : ℕ → Flow) → StateValue → List ℕ
shown_row_text most ranks note flow state =
    if is_shown most ranks (rank_of state) then short_row_text state (note state.ssrc) (flow state.ssrc) else []

-- the counts, and a row for each source that is shown, with what is noted of it
abbrev pub short_sources_text :
    (most members senders : ℕ) → (note : ℕ → NoteValue) → (flow : ℕ → Flow) → List StateValue → List ℕ
short_sources_text most members senders note flow states =
    let ranks = map rank_of states in
    short_counts_text members senders (shown_count most ranks) (length states)
    ++ flat_map (shown_row_text most ranks note flow) states

-- The same by full rows, in which moments are written so, or by short ones.
abbrev pub rows_text : Rows → (told : ℕ → List ℕ) → (members senders : ℕ) → (note : ℕ → NoteValue) →
    (flow : ℕ → Flow) → List StateValue → List ℕ
rows_text Full told members senders note flow states = sources_text told members senders note flow states
rows_text (Short most) told members senders note flow states = short_sources_text most members senders note flow states
