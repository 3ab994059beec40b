-- What a session writes: the line for the start, and then what the answers leave.
use Rattle.std.proofs.Common.{◌≡◌, ℕ, List, [], ◌++◌, Option, None, Result, ◌∙◌, ap, subst}
use Rattle.rtcp_engine.specs.answers.Histories.{History}
use Rattle.rtcp_engine.specs.answers.Refused.{error_in}
use Rattle.rtcp_engine.specs.state.States.{ParticipantValue, StandsAt}
use Rattle.rtcp_text.specs.AnswerText.{start_text}
use Rattle.rtcp_text.specs.declared.fault.TextFault.{TextFault}
use Rattle.rtcp_text.specs.Lines.{IsTextFrom, Writes}
use Rattle.rtcp_text.specs.Opened.{OpenedRunLeaves}
use Rattle.rtcp_text.specs.Replay.{AnswersStanding, IsNoEvent, IsSessionText, Replays, SessionLeaves, opening}
use Rattle.rtcp_text.proofs.OpenedLemmas.{Writes-leaves, replayed, replays as opened_replays}
use Rattle.rtcp_text.proofs.ReplayLemmas.{IsSessionText-from, session_text_continues, session_text_exists}

-- What is appended to nothing for the next moment is the line for the start.
pub opening_shown : (next : Option ℕ) (before start : List ℕ) → start ≡ before ++ start_text next → before ≡ [] →
    start ≡ start_text next
opening_shown next before start parts none = parts ∙ ap (λ b. b ++ start_text next) none

-- The line for the start of what holds a participant is written, and then its answers.
pub Writes-session : {S : Type 0} (most : ℕ) (participant_of : S → ParticipantValue) {A : Type 0} (state : S)
    (history : History) → StandsAt (participant_of state) history
    → (r : Result A TextFault) (remaining held last left : Option (List ℕ)) (start : List ℕ) → start ≡ opening history
    → Writes remaining held last
    (OpenedRunLeaves start (IsTextFrom most (AnswersStanding participant_of) IsNoEvent 1 state) r left)
    → Writes remaining held last (SessionLeaves most history r left)
Writes-session most participant_of state history stands r remaining held last left start opens writes =
    let IsAnswered = IsTextFrom most (AnswersStanding participant_of) IsNoEvent 1 state in
    Writes-leaves (opening history) (IsSessionText most history) (session_text_exists most history)
    (session_text_continues most history) IsAnswered (IsSessionText-from most participant_of state history stands) r
    remaining held last left (subst (λ o. Writes remaining held last (OpenedRunLeaves o IsAnswered r left)) opens
    writes)

-- Each promise of a replay is one case of what its session leaves.
pub replays : (most : ℕ) (history : History) (result : Result (Unit {0}) TextFault) (left : Option (List ℕ))
    {remaining held holds : Option (List ℕ)} → Writes remaining held holds (SessionLeaves most history result left) →
    Replays most history (replayed result) left (Writes remaining held holds)
replays most history result left leaves =
    opened_replays (opening history) (IsSessionText most history) (session_text_exists most history)
    (session_text_continues most history) (error_in history.setup ≡ None) result left leaves
