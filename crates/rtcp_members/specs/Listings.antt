-- What is told of the sources of a session, one after the other by rising SSRC, by its table and by its trace.
use Rattle.std.specs.Prelude.{ℕ, ◌≡◌, ◌<◌, Bool, true, List, [], ◌∷◌, filter, map, Option, Some, None}
use Rattle.std.specs.FinMap as finite
use Rattle.rtcp_source.specs.LastBlocks.{LastBlockValue, last_block}
use Rattle.rtcp_source.specs.Fields.{LastReportValue, last_report_of}
use Rattle.rtcp_source.specs.Receptions.{ReceptionValue, reception_in, reception_over}
use Rattle.rtcp_members.specs.Traces.{TraceStep}
use Rattle.rtcp_members.specs.Stays.{mark_of, before_mark, last_sighting, stay_of}
use Rattle.rtcp_members.specs.Entries.{entry_of, given_of, is_member, is_sender}
use Rattle.rtcp_members.specs.Tables.{TableValue}
use Rattle.rtcp_members.specs.Pending.{EntryRow, is_above}
use Rattle.rtcp_members.specs.News.{is_after}

-- What is told of a source.
pub record StateValue : Type 0 where
  pub ssrc : ℕ
  -- whether it is a member, and whether a sender
  pub member : Bool
  pub sender : Bool
  -- when it sent a BYE
  pub left : Option ℕ
  -- its last sighting
  pub heard : ℕ
  -- how its packets are received
  pub reception : Option ReceptionValue
  -- its last sender report
  pub last_report : Option LastReportValue
  -- what the last report block said that was made of it
  pub last_block : Option LastBlockValue

abbrev pub state_of : EntryRow → StateValue
state_of row =
    record {
      ssrc = row.0;
      member = is_member row.1;
      sender = is_sender row.1;
      left = row.1.mark;
      heard = row.1.sighting;
      reception = reception_in row.1.source;
      last_report = row.1.source.last_report;
      last_block = row.1.source.last_block;
    }

-- ---- By the table

-- the entries above an SSRC, or all, by rising SSRC
abbrev pub rows_above : (after : Option ℕ) → TableValue → List EntryRow
rows_above after table = filter (is_above after) (finite.entries table.entries)

abbrev pub first_state : List EntryRow → Option StateValue
first_state [] = None
first_state (row ∷ rows) = Some (state_of row)

-- What is told of the source of least SSRC above `after`, or of all sources.
abbrev pub state_above : (after : Option ℕ) → TableValue → Option StateValue
state_above after table = first_state (rows_above after table)

-- all that is told of these sources, one after the other
abbrev pub states_above : (after : Option ℕ) → TableValue → List StateValue
states_above after table = map state_of (rows_above after table)

-- nothing where there is no table to ask
abbrev pub states_of : (after : Option ℕ) → Option TableValue → List StateValue
states_of after None = []
states_of after (Some table) = states_above after table

-- what is told stands by rising SSRC, all of it above a lower one, if there is one
abbrev pub RiseAbove : (low : Option ℕ) → List StateValue → Type 0
RiseAbove low [] = Unit {0}
RiseAbove low (state ∷ states) = (is_after low state.ssrc ≡ true) × RiseAbove (Some state.ssrc) states

-- ---- By the trace

-- What the stay of a source tells of it.
abbrev pub state_in_stay : (ssrc : ℕ) → List TraceStep → StateValue
state_in_stay ssrc stay =
    record {
      ssrc = ssrc;
      member = is_member (entry_of ssrc stay);
      sender = is_sender (entry_of ssrc stay);
      left = mark_of ssrc stay;
      heard = last_sighting ssrc stay;
      reception = reception_over (given_of ssrc (before_mark ssrc stay));
      last_report = last_report_of (given_of ssrc (before_mark ssrc stay));
      last_block = last_block (given_of ssrc (before_mark ssrc stay));
    }

-- It is told of the source of least SSRC above `after` that is present.
pub record IsNextListed
    (after : Option ℕ) (capacity : ℕ) (trace : List TraceStep) (state : StateValue) : Type 0 where
  pub above : is_after after state.ssrc ≡ true
  pub least : (ssrc : ℕ) → is_after after ssrc ≡ true → ssrc < state.ssrc → stay_of capacity trace ssrc ≡ None
  pub stay : List TraceStep
  pub present : stay_of capacity trace state.ssrc ≡ Some stay
  pub says : state ≡ state_in_stay state.ssrc stay

-- Of the sources above `after`, the one of least SSRC is told, if some is present.
abbrev pub ListsAbove : (after : Option ℕ) (capacity : ℕ) → List TraceStep → Option StateValue → Type 0
ListsAbove after capacity trace None =
    (ssrc : ℕ) → is_after after ssrc ≡ true → stay_of capacity trace ssrc ≡ None
ListsAbove after capacity trace (Some state) = IsNextListed after capacity trace state

-- What is told to one who asks for the source above `after`, and each time for the one above the last, until nothing
-- is told.
abbrev pub IsWalk : (after : Option ℕ) (capacity : ℕ) → List TraceStep → List StateValue → Type 0
IsWalk after capacity trace [] = ListsAbove after capacity trace None
IsWalk after capacity trace (state ∷ states) =
    ListsAbove after capacity trace (Some state) × IsWalk (Some state.ssrc) capacity trace states
