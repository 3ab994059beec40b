-- What a participant answers to an act, after the acts that it took before, or why it refuses the act.
use Rattle.std.specs.Prelude.{ℕ, List, [], ◌∷◌, Some, None, option_map, Result, Ok, Err, Option, length, map, nat_le, nat_lt, not, ◌-◌, ◌^◌, ◌&&◌, if◌then◌else◌}
use Rattle.rtcp_engine.specs.declared.refusal.Refusal.{Refusal}
use Rattle.rtcp_engine.specs.answers.Acts.{Act, StepValue, AnswerValue, answer_unless, Datagram, arrived, configured, moment_of, rtcp, rtp}
use Rattle.rtcp_engine.specs.answers.Changes.{change_by, Session, is_about, may_change}
use Rattle.rtcp_engine.specs.answers.Histories.{History, brought_by, session_at, session_for, with_act, last_moment}
use Rattle.rtcp_engine.specs.answers.Lives.{entries_in_life, members_in_life, next_in_life, others_moved_by, senders_in_life}
use Rattle.rtcp_engine.specs.declared.refusal.Refusal.TheVariants.{Backwards, Left, OwnSsrc, Rtp, Settings, TooFar, TooMany, Wire}
use Rattle.rtcp_engine.specs.answers.Leaving.{Life, finished}
use Rattle.std.specs.Option.{option_or}
use Rattle.rtcp_engine.specs.answers.Setups.{settings_error}

-- why any act at a moment is refused, by the last act's moment and how many calls were taken: the first of the reasons
abbrev pub call_refusal : (moment latest calls : ℕ) → Option Refusal
call_refusal moment latest calls =
    if nat_lt moment latest then Some Backwards
    else (if nat_lt (2 ^ 50) moment then Some TooFar
    else (if nat_le (2 ^ 40 - 1) calls then Some TooMany
    else None))

abbrev pub fault_in : Datagram → Option Refusal
fault_in (rtcp size (Err fault)) = Some (Wire fault)
fault_in (rtp (Err fault)) = Some (Rtp fault)
fault_in _ = None

-- Why an act is refused for what it tells: a datagram, or settings. A datagram that is about the participant itself is
-- refused, unless it changes its identifier.
abbrev pub refusal_of_content : Session → Act → Option Refusal
refusal_of_content session (arrived moment peer word datagram) =
    let peers = map (λ change. change.peer) session.changes in
    option_or (fault_in datagram)
    (if is_about session.setup.ssrc datagram && not (may_change peers peer) then Some OwnSsrc else None)
refusal_of_content session (configured moment settings) = option_map Settings (settings_error settings)
refusal_of_content session act = None

-- One that is gone takes nothing more, whatever else is wrong with an act.
abbrev pub refusal_in : Life → Option Refusal → Option Refusal
refusal_in (finished outcome) refusal = Some Left
refusal_in _ refusal = refusal

-- Why an act is refused after a history, if it is: as any act then, or else for what it tells.
abbrev pub refusal_after : History → Act → Option Refusal
refusal_after history act =
    refusal_in (session_at history).life
    (option_or (call_refusal (moment_of act) (last_moment history.acts) (length history.acts))
    (refusal_of_content (session_at history) act))

-- what is answered to an act that is taken
abbrev pub step_by : History → Act → StepValue
step_by history act =
    let before = session_at history in
    let now = session_for before act in
    let next = session_at (with_act history act) in
    record {
      out = brought_by before act;
      members = members_in_life next.setup next.life;
      senders = senders_in_life next.setup next.life;
      entries = entries_in_life next.setup next.life;
      next = next_in_life next.life;
      changed = option_map (λ new. new.ssrc) (change_by before act);
      others_changed = others_moved_by now.setup act now.life;
    }

-- What is answered to an act after a history.
abbrev pub answer_of : History → Act → AnswerValue
answer_of history act = answer_unless (refusal_after history act) (step_by history act)

-- the history with one act more, if it is taken
abbrev pub followed_by : History → Act → History
followed_by history act =
    elim (refusal_after history act) [ None ↦ with_act history act | Some refusal ↦ history ]

-- The SSRC under which an act is taken after a history, with the change that the act brings (8.2), or why it is
-- refused.
abbrev pub taken_under : History → Act → Result ℕ Refusal
taken_under history act =
    elim (refusal_after history act) [
      | None ↦ Ok (session_for (session_at history) act).setup.ssrc
      | Some refusal ↦ Err refusal
    ]

-- The answers to acts, the first one first.
abbrev pub answers_to : History → List Act → List AnswerValue
answers_to history [] = []
answers_to history (act ∷ acts) = answer_of history act ∷ answers_to (followed_by history act) acts

-- the history after acts, the first one first
abbrev pub followed_by_all : History → List Act → History
followed_by_all history [] = history
followed_by_all history (act ∷ acts) = followed_by_all (followed_by history act) acts
