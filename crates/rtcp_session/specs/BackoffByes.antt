-- Those who leave with a BYE after a backoff (RFC 3550, 6.3.7), and how many BYEs each counts until its own. Lists are
-- newest first; moments and widths are in microseconds.
use Rattle.std.specs.Prelude.{ℕ, ◌+◌, ◌*◌, ◌≤◌, ◌&&◌, nat_le, nat_lt, Bool, List, [], ◌∷◌, ◌++◌, length, map, filter, All, flat_map}
use Rattle.rtcp_timer.specs.declared.load.Load.{Load}
use Rattle.rtcp_timer.specs.Loads.{with_headers}
use Rattle.rtcp_engine.specs.answers.Setups.{Setup}
use Rattle.rtcp_engine.specs.answers.Acts.{Act}
use Rattle.rtcp_engine.specs.answers.Reporting.{bye_octets}
use Rattle.rtcp_engine.specs.answers.Leaving.{Backoff, Life, present, backing_off, finished, leaving_count, leaving_load}
use Rattle.rtcp_engine.specs.answers.Histories.{History, session_of}
use Rattle.rtcp_engine.specs.bounds.Sent.{Sent, sent_by}
use Rattle.rtcp_engine.specs.state.Taken.{IsHistory}
use Rattle.rtcp_engine.specs.bounds.Spacing.{is_last_bye}
use Rattle.rtcp_session.specs.Windows.{Joined}
use Rattle.rtcp_session.specs.Crowds.{Terms, HasAtMost}

-- ---- BackoffByes

-- A BYE that was sent after a backoff, and what it was decided by: the setup under the identifier of that moment, and
-- what came in the backoff.
pub record BackoffBye : Type 0 where
  pub bye : Sent
  pub setup : Setup
  pub backoff : Backoff

-- the load from which its interval follows
abbrev pub backoff_bye_load : BackoffBye → Load
backoff_bye_load backoff_bye =
    leaving_load backoff_bye.setup (leaving_count backoff_bye.backoff) backoff_bye.backoff.bye_compounds

abbrev pub backoff_byes_in : Setup → Life → List Sent → List BackoffBye
backoff_byes_in setup (present outcome) sent = []
backoff_byes_in setup (backing_off outcome backoff) sent =
    map (λ bye. record { bye = bye; setup = setup; backoff = backoff }) (filter is_last_bye sent)
backoff_byes_in setup (finished outcome) sent = []

abbrev pub backoff_byes_over : Setup → (word : ℕ) → List Act → List BackoffBye
backoff_byes_over setup word [] = []
backoff_byes_over setup word (act ∷ earlier) =
    let before = session_of setup word earlier in
    backoff_byes_in before.setup before.life (sent_by before act) ++ backoff_byes_over setup word earlier

-- that of a history, if there is one
abbrev pub backoff_byes_at : History → List BackoffBye
backoff_byes_at history = backoff_byes_over history.setup history.word history.acts

-- ---- One clock for all

-- from a leave to its BYE, by a clock that all go by, and what the BYE was decided by
pub record ByeWait : Type 0 where
  pub since : ℕ
  pub until : ℕ
  pub backoff_bye : BackoffBye

abbrev pub bye_wait_of : (start : ℕ) → BackoffBye → ByeWait
bye_wait_of start backoff_bye = record {
  since = start + backoff_bye.backoff.since;
  until = start + backoff_bye.bye.moment;
  backoff_bye = backoff_bye;
}

abbrev pub all_bye_waits : List Joined → List ByeWait
all_bye_waits all = flat_map (λ joined. map (bye_wait_of joined.start) (backoff_byes_at joined.history)) all

-- The BYE of another goes out after the leave of one and up to its BYE, which counts too.
abbrev pub bye_during : ByeWait → ByeWait → Bool
bye_during leave other = nat_lt leave.since other.until && nat_le other.until leave.until

-- The leave and its BYE lie in a window.
abbrev pub is_bye_wait_in : (from width : ℕ) → ByeWait → Bool
is_bye_wait_in from width leave = nat_le from leave.since && nat_le leave.until (from + width)

abbrev pub bye_waits_within : (from width : ℕ) → List Joined → List ByeWait
bye_waits_within from width all = filter (is_bye_wait_in from width) (all_bye_waits all)

-- The BYEs that go out after its leave and up to its own are at most so many percent of those that it counts.
abbrev pub CountsByes : (percent : ℕ) → List ByeWait → ByeWait → Type 0
CountsByes percent leaves leave =
    100 * length (filter (bye_during leave) leaves) ≤ percent * leaving_count leave.backoff_bye.backoff

-- No compound with a BYE is smaller, neither its own nor one that came to it since its leave, headers included.
pub record HasByeSizes (size : ℕ) (leave : ByeWait) : Type 0 where
  pub own : size ≤ with_headers (length (bye_octets leave.backoff_bye.setup))
  pub sizes : All (λ bye_compound. size ≤ with_headers bye_compound.size) leave.backoff_bye.backoff.bye_compounds

-- A session in which those who leave in the window count each other's BYEs to that extent, have at most the bandwidth
-- of the terms at these, and no compound with a BYE is smaller than the size of the terms.
pub record ByesAreCounted (terms : Terms) (from width : ℕ) (all : List Joined) : Type 0 where
  pub stand : All (λ joined. IsHistory joined.history) all
  pub bandwidth : All (λ leave. HasAtMost terms leave.backoff_bye.setup) (bye_waits_within from width all)
  pub sizes : All (HasByeSizes terms.size) (bye_waits_within from width all)
  pub counted : All (CountsByes terms.percent (bye_waits_within from width all)) (bye_waits_within from width all)
