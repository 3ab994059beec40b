-- The text of what a guarded participant answers, as `rtcp replay --guard` shows it.
use Rattle.std.specs.Prelude.{ℕ, List, ◌∷◌, [], ◌++◌, Ok, Err, codes}
use Rattle.rtcp_guarded.specs.Guarded.{GuardedAnswer}
use Rattle.rtcp_guarded.specs.declared.untaken.Reason.{Reason}
use Rattle.rtcp_guarded.specs.declared.untaken.Reason.TheVariants.{Stranger, Crowd}
use Rattle.rtcp_guarded.specs.declared.untaken.Untaken.TheVariants.{Refused, HeldBack}
use Rattle.rtcp_text.specs.AnswerText.{answer_text}

abbrev pub reason_text : Reason → List ℕ
reason_text Stranger = codes "H1 Stranger"
reason_text Crowd = codes "H2 Crowd"

-- the line for a datagram that the guard holds back
abbrev pub held_back_text : Reason → List ℕ
held_back_text reason = codes "refused " ++ reason_text reason ++ 10 ∷ []

-- the line for an answer: a participant's, but for what is held back
abbrev pub guarded_answer_text : GuardedAnswer → List ℕ
guarded_answer_text (Ok step) = answer_text (Ok step)
guarded_answer_text (Err (Refused refusal)) = answer_text (Err refusal)
guarded_answer_text (Err (HeldBack reason)) = held_back_text reason
