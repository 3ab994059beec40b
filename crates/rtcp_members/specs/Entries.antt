-- What a session knows of each source that is present (RFC 3550, 6.2.1, 6.3), and words beside those of Members.
use Rattle.std.specs.Prelude.{ℕ, ◌≡◌, ◌≤◌, ◌==◌, ◌&&◌, Bool, true, false, List, ◌∷◌, ◌++◌, filter, length, if◌then◌else◌, Option, Some, None, is_some, is_none, option_map, not}
use Rattle.rtcp_wire.specs.declared.fact.Fact.{Fact}
use Rattle.rtcp_wire.specs.declared.fact.Fact.TheVariants.{Media}
use Rattle.rtcp_source.specs.Packets.{Given, is_counted_in, run_of}
use Rattle.rtcp_source.specs.Summary.{SourceValue, summary_of}
use Rattle.rtcp_members.specs.Present.{Horizons, TraceStep, fact_came, check_made, names, mark_of, before_mark, last_naming, is_before, stay_of}
pub use Rattle.rtcp_members.specs.Members.{given_of, gives_name, is_valid, sending_of, counted_at, members_at, senders_at, moved_within}

-- ---- One step

-- Whether a fact is a packet of the source that is counted after what the source gave (A.1).
abbrev pub is_counted_fact : (ssrc : ℕ) → Fact → List Given → Bool
is_counted_fact ssrc (Media other seq timestamp octets rate) given =
    other == ssrc && is_counted_in (run_of given) seq
is_counted_fact ssrc _ given = false

-- Whether a step is such a packet.
abbrev pub is_counted_by : (ssrc : ℕ) → TraceStep → List Given → Bool
is_counted_by ssrc (fact_came fact moment) given = is_counted_fact ssrc fact given
is_counted_by ssrc _ given = false

abbrev pub still_sending : Horizons → Option ℕ → Option ℕ
still_sending horizons sending = if is_before sending horizons.idle then None else sending

-- Whether a step changes who is a member or who sends.
abbrev pub step_moves : (capacity : ℕ) → TraceStep → List TraceStep → Bool
step_moves capacity step earlier =
    not ((members_at capacity (step ∷ earlier) == members_at capacity earlier)
    && (senders_at capacity (step ∷ earlier) == senders_at capacity earlier))

-- ---- Entries

pub record EntryValue : Type 0 where
  -- whether the source gave its CNAME, or a packet of it was counted
  pub valid : Bool
  -- when it sent a BYE
  pub mark : Option ℕ
  -- its last sighting
  pub sighting : ℕ
  -- the moment of its last counted packet before the mark, until a check with a later horizon for packets
  pub sending : Option ℕ
  pub source : SourceValue

-- what a stay says of its source
abbrev pub entry_of : (ssrc : ℕ) → List TraceStep → EntryValue
entry_of ssrc stay =
    let own = before_mark ssrc stay in
    record {
      valid = is_valid ssrc own;
      mark = mark_of ssrc stay;
      sighting = last_naming ssrc own;
      sending = sending_of ssrc own;
      source = summary_of (given_of ssrc own);
    }

-- What the trace says of a source, if it is present.
abbrev pub entry_at : (capacity : ℕ) → List TraceStep → (ssrc : ℕ) → Option EntryValue
entry_at capacity trace ssrc = option_map (entry_of ssrc) (stay_of capacity trace ssrc)

abbrev pub is_member : EntryValue → Bool
is_member entry = entry.valid && is_none entry.mark

abbrev pub is_sender : EntryValue → Bool
is_sender entry = is_member entry && is_some entry.sending

abbrev pub is_such : (EntryValue → Bool) → Option EntryValue → Bool
is_such test None = false
is_such test (Some entry) = test entry

-- how many of the sources of a trace are such, by their entries (law `counts_are_of_entries`)
abbrev pub count_at : (EntryValue → Bool) → (capacity : ℕ) → List TraceStep → ℕ
count_at test capacity trace =
    length (filter (λ ssrc. is_such test (entry_at capacity trace ssrc)) (names trace))

-- ---- Senders in other words

-- The newest counted packet of a source among these steps came at this moment, and no check since it had a
-- later horizon for packets.
pub record IsSendingSince (ssrc : ℕ) (own : List TraceStep) (moment : ℕ) : Type 0 where
  pub since : List TraceStep
  pub packet : Fact
  pub before : List TraceStep
  pub parts : own ≡ since ++ fact_came packet moment ∷ before
  pub counted : is_counted_fact ssrc packet (given_of ssrc before) ≡ true
  pub newest : (newer : List TraceStep) (other : Fact) (at : ℕ) (older : List TraceStep) →
      since ≡ newer ++ fact_came other at ∷ older →
      is_counted_fact ssrc other (given_of ssrc (older ++ fact_came packet moment ∷ before)) ≡ false
  pub recent : (newer : List TraceStep) (horizons : Horizons) (older : List TraceStep) →
      since ≡ newer ++ check_made horizons ∷ older →
      horizons.idle ≤ moment

-- A source is a sender where it is present without a mark, and sends since some moment of its stay.
pub record IsSenderAt (capacity : ℕ) (trace : List TraceStep) (ssrc : ℕ) : Type 0 where
  pub stay : List TraceStep
  pub present : stay_of capacity trace ssrc ≡ Some stay
  pub unmarked : mark_of ssrc stay ≡ None
  pub moment : ℕ
  pub sending : IsSendingSince ssrc stay moment
