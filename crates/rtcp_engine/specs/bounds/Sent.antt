-- The compounds that a participant sends over its session. Lists are newest first.
use Rattle.std.specs.Prelude.{ℕ, List, [], ◌∷◌, ◌++◌, filter, Bool, true, false, is_some, if◌then◌else◌, Option, Some, None, Ok, Err}
use Rattle.rtcp_engine.specs.declared.step.OutKind.TheVariants.{Report as ReportKind, Bye as ByeKind}
use Rattle.rtcp_engine.specs.answers.Setups.{Setup}
use Rattle.rtcp_engine.specs.answers.Acts.{Act, moment_of, OutValue, AnswerValue}
use Rattle.rtcp_engine.specs.answers.Lives.{made_by}
use Rattle.rtcp_engine.specs.answers.Histories.{History, brought_by, session_of}
use Rattle.rtcp_engine.specs.answers.Leaving.{Life, present, backing_off, finished}
use Rattle.rtcp_engine.specs.answers.Changes.{Session, change_by}

-- ---- A compound

pub record Sent : Type 0 where
  pub moment : ℕ
  -- the deterministic interval then computed, after the check of its tick: 0 for a BYE that waits for nothing
  pub interval : ℕ
  pub out : OutValue
  -- whether it is the BYE of an identifier that was given up
  pub changes : Bool

abbrev pub is_report : Sent → Bool
is_report sent = elim sent.out.kind [ ReportKind ↦ true | ByeKind ↦ false ]

abbrev pub reports_in : List Sent → List Sent
reports_in sent = filter is_report sent

-- ---- Intervals

-- The deterministic interval that decides whether an act brings a compound (RFC 3550, 6.3.6, 6.3.7): 0 where it changes
-- the identifier.
abbrev pub deciding_interval : Session → Act → ℕ
deciding_interval session act =
    if is_some (change_by session act) then 0 else (made_by session.setup act session.life).interval

-- ---- Sessions

abbrev pub sent_with : (moment interval : ℕ) → (changes : Bool) → Option OutValue → List Sent
sent_with moment interval changes None = []
sent_with moment interval changes (Some out) =
    record { moment = moment; interval = interval; out = out; changes = changes } ∷ []

-- what an act brings
abbrev pub sent_by : Session → Act → List Sent
sent_by session act =
    sent_with (moment_of act) (deciding_interval session act) (is_some (change_by session act)) (brought_by session act)

-- All that a session brought, from its setup, its start word and the acts that were taken.
abbrev pub sent_over : Setup → (word : ℕ) → List Act → List Sent
sent_over setup word [] = []
sent_over setup word (act ∷ earlier) = sent_by (session_of setup word earlier) act ++ sent_over setup word earlier

abbrev pub sent_at : History → List Sent
sent_at history = sent_over history.setup history.word history.acts

-- what an answer hands out
abbrev pub handed_out : (moment interval : ℕ) → AnswerValue → List Sent
handed_out moment interval (Ok step) = sent_with moment interval (is_some step.changed) step.out
handed_out moment interval (Err refusal) = []

-- ---- What a session counts

-- how many reports the participant counts, for the minimum of its interval and for its extra items
abbrev pub reports_of : Life → ℕ
reports_of (present outcome) = outcome.reports
reports_of (backing_off outcome backoff) = outcome.reports
reports_of (finished outcome) = outcome.reports

abbrev pub interval_by : Setup → Act → Life → ℕ
interval_by setup act life = (made_by setup act life).interval
