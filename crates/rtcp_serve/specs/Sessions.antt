-- How far a session over a link has come, and what is kept of it.
use Rattle.std.specs.Prelude.{◌≡◌, ◌≤◌, ℕ, suc, ◌⊎◌, IsTrue, is_some, Bool, true, false, List, Option, None, Result, Ok, Err}
use Rattle.rand_core.specs.Stream.{Stream}
use Rattle.rtcp_engine.specs.answers.Histories.{History}
use Rattle.rtcp_engine.specs.state.States.{ParticipantValue}
use Rattle.rtcp_guarded.specs.Guarded.{GuardedAnswer}
use Rattle.rtcp_serve.specs.declared.serving.End.{End}
use Rattle.rtcp_serve.specs.declared.serving.Cause.{Cause}
use Rattle.rtcp_serve.specs.declared.serving.Cause.TheVariants.{Done}
use Rattle.rtcp_serve.specs.declared.serving.tally.Tally.{Tally}
use Rattle.rtcp_serve.specs.Tallies.{end_of}
use Rattle.rtcp_serve.specs.Endings.{Pause, IsCut, AreHeeded}
use Rattle.rtcp_serve.specs.Links.{Call, LinkValue, WereCalled}
use Rattle.rtcp_serve.specs.Observers.{Notice, TakesAll}
use Rattle.rtcp_serve.specs.Served.{Served, ServedValue, StandsServed, alone, by_itself, next_for}
use Rattle.rtcp_serve.specs.Serving.{Reader, Stage, resting, ended, SessionState, going, after_calls, AllFit, at_the_start_of}

-- ---- What is kept

-- what is kept of a session at some point of it
pub record Kept (O : Type 0) : Type 0 where
  pub link : LinkValue
  pub participant : ServedValue
  -- the random words that are left
  pub words : Stream
  pub observer : O

abbrev pub keeps_served : {O : Type 0} → LinkValue → ServedValue → Stream → O → Kept O
keeps_served link participant words observer =
    record { link = link; participant = participant; words = words; observer = observer }

-- that of a participant alone
abbrev pub keeps : {O : Type 0} → LinkValue → ParticipantValue → Stream → O → Kept O
keeps link participant words observer = keeps_served link (by_itself participant) words observer

-- what a session is of: how datagrams are read, how many turns are made after the leave, and its observer at the start
pub record Run (O : Type 0) : Type 0 where
  pub reader : Reader
  pub total : ℕ
  pub start : O

abbrev pub run_of : {O : Type 0} → Reader → (total : ℕ) → (start : O) → Run O
run_of reader total start = record { reader = reader; total = total; start = start }

-- What is kept, and what was counted, is where a session stands, and its observer has taken what it was told there.
pub record Holds
    {O : Type 0} (takes : Notice → O → O → Type 0) (run : Run O) (s : SessionState) (kept : Kept O) (counted : Tally)
    : Type 0 where
  pub participant : StandsServed kept.participant s.history
  pub words : kept.words ≡ s.words
  pub tally : counted ≡ s.tally
  pub told : TakesAll takes s.notices run.start kept.observer

-- the turns of a session: how many are left, before the leave or after it, and its pauses
pub record Turns : Type 0 where
  pub left : ℕ
  pub has_left : Bool
  pub pauses : List Pause

abbrev pub turns_with : (left : ℕ) → (has_left : Bool) → (pauses : List Pause) → Turns
turns_with left has_left pauses = record { left = left; has_left = has_left; pauses = pauses }

abbrev pub turns_of : SessionState → Turns
turns_of s = turns_with s.turns s.leaving s.pauses

-- ---- Parts of a session

-- A result is the stage that a session has come to.
abbrev pub Reaches : {A : Type 0} → (next : Stage) → Result A Cause → SessionState → Type 0
Reaches next (Ok done) s = s.stage ≡ next
Reaches next (Err cause) s = s.stage ≡ ended cause

-- the stage that an answer leads to, where it met no limit and what it handed out was sent
abbrev pub led_to : (next refused : Stage) → GuardedAnswer → Stage
led_to next refused (Ok step) = next
led_to next refused (Err untaken) = refused

-- when the participant is to be asked next, unless it has left
abbrev pub next_at : SessionState → Option ℕ
next_at s = next_for s.history

-- A turn comes next, and so many are left after it.
pub record HasTurn (left : ℕ) (s : SessionState) : Type 0 where
  pub resting : s.stage ≡ resting
  pub there : IsTrue (is_some (next_at s))
  pub turns : s.turns ≡ suc left

-- Turns end where none is left, or the participant is gone, or for another cause.
abbrev pub EndsTurns : {A : Type 0} → Result A Cause → SessionState → Type 0
EndsTurns (Ok done) s = (s.stage ≡ resting) × ((next_at s ≡ None) ⊎ (s.turns ≡ 0))
EndsTurns (Err cause) s = s.stage ≡ ended cause

-- A session has ended.
abbrev pub EndsAs : {A : Type 0} → Result A Cause → SessionState → Type 0
EndsAs (Ok done) s = s.stage ≡ ended Done
EndsAs (Err cause) s = s.stage ≡ ended cause

-- Calls of a link, each the one that came next, led from one standing to another.
pub record Moves {O : Type 0} (run : Run O) (calls : List Call) (s t : SessionState) (before after : LinkValue)
    : Type 0 where
  pub fit : AllFit run.reader run.total s calls
  pub reached : t ≡ after_calls run.reader run.total s calls
  pub called : WereCalled calls before after

-- A part of a session: the calls that it made of the link led from one standing to another, at which it keeps what it
-- keeps and comes to what it comes to.
pub record Walks
    {O : Type 0} (takes : Notice → O → O → Type 0) (run : Run O) (s : SessionState) (before : LinkValue)
    (after : Kept O) (counted : Tally) (at : SessionState → Type 0) (rest : Turns) : Type 0 where
  pub calls : List Call
  pub reached : SessionState
  pub moves : Moves run calls s reached before after.link
  pub holds : Holds takes run reached after counted
  pub ends : at reached
  pub turns : turns_of reached ≡ rest

-- Calls of a link, each the one that came next, led from one standing to another and on to what comes next.
pub record Comes (reader : Reader) (total : ℕ) (calls : List Call) (s t : SessionState) (before after : LinkValue) :
    Type
    0 where
  pub fit : AllFit reader total s calls
  pub reached : t ≡ going reader total (after_calls reader total s calls)
  pub called : WereCalled calls before after

-- No turn is left, and the leave comes next.
pub record IsLeaveDue (s : SessionState) : Type 0 where
  pub resting : s.stage ≡ resting
  pub there : IsTrue (is_some (next_at s))
  pub turns : s.turns ≡ 0
  pub leaving : s.leaving ≡ false

-- The last part of a session: the same, up to what comes next, which is its end.
pub record Closes
    {O : Type 0} (takes : Notice → O → O → Type 0) (run : Run O) (s : SessionState) (before : LinkValue)
    (after : Kept O) (counted : Tally) (at : SessionState → Type 0) (pauses : List Pause) : Type 0 where
  pub calls : List Call
  pub reached : SessionState
  pub comes : Comes run.reader run.total calls s reached before after.link
  pub holds : Holds takes run reached after counted
  pub ends : at reached
  pub paused : reached.pauses ≡ pauses

-- what a session came to
abbrev pub IsEnd : End → SessionState → Type 0
IsEnd end t = (t.stage ≡ ended end.cause) × (end ≡ end_of end.cause t.tally)

-- A session over a link, from its start to its end: the calls of the link are those that a session makes, and the
-- participant and the words are where these leave them. The result says what they come to, and the observer has taken
-- what it was told.
pub record RunsSession
    {O : Type 0} (takes : Notice → O → O → Type 0) (run : Run O) (start : SessionState) (before : LinkValue)
    (after : Kept O) (result : End) : Type 0 where
  pub calls : List Call
  pub reached : SessionState
  pub comes : Comes run.reader run.total calls start reached before after.link
  pub holds : Holds takes run reached after reached.tally
  pub ends : IsEnd result reached

-- ---- Endings

-- A session over a link whose turns may be ended, before the leave and after it: it is one of the turns that were
-- made before the leave, and of so many at most after it. Its ending is heeded in each pause, and at the end of the
-- turns after the leave.
pub record RunsCutOf
    {O : Type 0} (takes : Notice → O → O → Type 0) (reader : Reader) (known : Bool → ℕ → Option Bool) (most : ℕ)
    (history : Served) (before after : Kept O) (result : End) : Type 0 where
  pub made : ℕ
  pub further : ℕ
  pub runs : RunsSession takes (run_of reader further before.observer) (at_the_start_of history before.words made)
      before.link
      after result
  pub heeded : AreHeeded known most made runs.reached.pauses
  -- the moment at which the turns before the leave were over
  pub left_at : ℕ
  pub leaves : IsCut (known false left_at) most made
  pub left_by : left_at ≤ runs.reached.tally.moment
  pub waits : IsCut (known true runs.reached.tally.moment) most further

-- that of a participant alone
abbrev pub RunsCut : {O : Type 0} → (takes : Notice → O → O → Type 0) → Reader → (known : Bool → ℕ → Option Bool) →
    (most : ℕ) → History → (before after : Kept O) → End → Type 0
RunsCut takes reader known most history before after result =
    RunsCutOf takes reader known most (alone history) before after result
