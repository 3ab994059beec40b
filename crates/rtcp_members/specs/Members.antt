-- Who is a member and who sends, by the trace of a session, of which sources a block is due, and in which turn they are
-- reported (RFC 3550, 6.2.1, 6.3, 6.4).
use Rattle.std.specs.Prelude.{ℕ, ◌||◌, ◌==◌, ◌&&◌, Bool, false, not, nat_lt, zero, suc, List, [], ◌∷◌, ◌++◌, filter, filter_map, length, slice_get, if◌then◌else◌, Option, Some, None, is_some, is_none, option_and_then}
use Rattle.std.specs.List.{list_any}
use Rattle.rtcp_wire.specs.Values.{ReportBlock}
use Rattle.rtcp_wire.specs.declared.fact.Fact.{Fact}
use Rattle.rtcp_wire.specs.declared.fact.Fact.TheVariants.{Told, Named, Media}
use Rattle.rtcp_clock.specs.Moments.{media_units}
use Rattle.rtcp_source.specs.Packets.{Given, packet_came, report_came, block_made, is_counted_in, run_of, has_news_since}
use Rattle.rtcp_source.specs.ReportBlocks.{block_over}
use Rattle.rtcp_members.specs.Present.{TraceStep, fact_came, check_made, block_made_of, names, mark_of, before_mark, is_before, stay_of}

-- ---- What a stay says

-- What a stay gives of a source, with arrivals in units of the media's clock (5.1).
abbrev pub given_of : (ssrc : ℕ) → List TraceStep → List Given
given_of ssrc [] = []
given_of ssrc (fact_came (Told other ntp rtp) moment ∷ earlier) =
    let given = given_of ssrc earlier in if other == ssrc then report_came ntp rtp moment ∷ given else given
given_of ssrc (fact_came (Media other seq timestamp octets rate) moment ∷ earlier) =
    let given = given_of ssrc earlier in
    if other == ssrc then packet_came seq timestamp (media_units moment rate) octets rate ∷ given else given
given_of ssrc (block_made_of other ∷ earlier) =
    let given = given_of ssrc earlier in if other == ssrc then block_made ∷ given else given
given_of ssrc (_ ∷ earlier) = given_of ssrc earlier

abbrev pub gives_name : (ssrc : ℕ) → TraceStep → Bool
gives_name ssrc (fact_came (Named other) moment) = other == ssrc
gives_name ssrc _ = false

-- A source is valid once it gave its name, or a packet of it was counted: its last run has a first packet.
abbrev pub is_valid : (ssrc : ℕ) → List TraceStep → Bool
is_valid ssrc stay = list_any (gives_name ssrc) stay || is_some (slice_get (run_of (given_of ssrc stay)).counted 0)

-- The moment of the last counted packet, as long as no check after it had a later horizon for packets.
abbrev pub sending_of : (ssrc : ℕ) → List TraceStep → Option ℕ
sending_of ssrc [] = None
sending_of ssrc (fact_came (Media other seq timestamp octets rate) moment ∷ earlier) =
    if other == ssrc && is_counted_in (run_of (given_of ssrc earlier)) seq then Some moment else
    sending_of ssrc earlier
sending_of ssrc (check_made horizons ∷ earlier) =
    let sending = sending_of ssrc earlier in if is_before sending horizons.idle then None else sending
sending_of ssrc (_ ∷ earlier) = sending_of ssrc earlier

-- ---- Sources that sent no BYE

-- Whether a source is present without a mark, and its stay is such.
abbrev pub is_unmarked_with : (capacity : ℕ) → List TraceStep → (such : ℕ → List TraceStep → Bool) → (ssrc : ℕ) → Bool
is_unmarked_with capacity trace such ssrc =
    elim (stay_of capacity trace ssrc) [ None ↦ false | Some stay ↦ is_none (mark_of ssrc stay) && such ssrc stay ]

-- Whether a fact is a packet that is counted: its source is present without a mark, and the packet is counted in the
-- last run of what that gave, or as the first of a new one (A.1).
abbrev pub counted_at : (capacity : ℕ) → List TraceStep → Fact → Bool
counted_at capacity trace (Media other seq timestamp octets rate) =
    is_unmarked_with capacity trace (λ ssrc stay. is_counted_in (run_of (given_of ssrc stay)) seq) other
counted_at capacity trace _ = false

-- Members are valid and not marked (6.2.1, 6.3.7).
abbrev pub members_at : (capacity : ℕ) → List TraceStep → ℕ
members_at capacity trace = length (filter (is_unmarked_with capacity trace is_valid) (names trace))

-- Senders are the members who send (6.3).
abbrev pub senders_at : (capacity : ℕ) → List TraceStep → ℕ
senders_at capacity trace =
    length (filter (is_unmarked_with capacity trace
    (λ ssrc stay. is_valid ssrc stay && is_some (sending_of ssrc stay))) (names trace))

-- Whether one of the newest steps of a trace, so many of them, changes who is a member or who sends. A step concerns
-- one source, or lets some go: so it does exactly where it changes how many are or do (law `roles_move_with_counts`).
abbrev pub moved_within : (capacity : ℕ) → (steps : ℕ) → List TraceStep → Bool
moved_within capacity zero trace = false
moved_within capacity (suc steps) [] = false
moved_within capacity (suc steps) (step ∷ earlier) =
    not (members_at capacity (step ∷ earlier) == members_at capacity earlier
    && senders_at capacity (step ∷ earlier) == senders_at capacity earlier)
    || moved_within capacity steps earlier

-- ---- Blocks, in turn

-- Whether a block of a source is due: the source is present without a mark, and some packet of it was counted after its
-- last block, or at all if there is no block.
abbrev pub is_due_by : (capacity : ℕ) → List TraceStep → (ssrc : ℕ) → Bool
is_due_by capacity trace = is_unmarked_with capacity trace (λ ssrc stay. has_news_since (given_of ssrc stay))

-- The blocks of these sources at the moment `t`, in their order: each is of what its source gave before its mark.
abbrev pub blocks_at : (t capacity : ℕ) → List TraceStep → List ℕ → List ReportBlock
blocks_at t capacity trace ssrcs =
    filter_map (λ ssrc. option_and_then (λ stay. block_over ssrc t (given_of ssrc (before_mark ssrc stay)))
    (stay_of capacity trace ssrc)) ssrcs

-- a number in its place among rising ones
abbrev pub put_rising : ℕ → List ℕ → List ℕ
put_rising x [] = x ∷ []
put_rising x (y ∷ ys) = if nat_lt x y then x ∷ y ∷ ys else y ∷ put_rising x ys

abbrev pub rising : List ℕ → List ℕ
rising [] = []
rising (x ∷ xs) = put_rising x (rising xs)

-- The sources that a block is due of, by rising SSRC, in cyclic turn: those above the last one that was reported, if
-- there was one, and then the others.
abbrev pub pending_at : (last : Option ℕ) (capacity : ℕ) → List TraceStep → List ℕ
pending_at last capacity trace =
    let due = filter (is_due_by capacity trace) (rising (names trace)) in
    filter (is_before last) due ++ filter (λ ssrc. not (is_before last ssrc)) due
