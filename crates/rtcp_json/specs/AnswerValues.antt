-- The values of JSON that a replay shows the answers of a participant as.
--
--   {"start":{"members":1,"senders":0,"next":1026037}}
--   {"members":2,"senders":0,"next":1026037,"out":null,"ssrc":null}
--   {"refused":"E5 Wire","fault":"F1 Short","at":0}
use Rattle.std.specs.Prelude.{ℕ, List, [], ◌∷◌, ◌++◌, Option, Ok, Err, codes}
use Rattle.json.specs.Json.{Json, string}
use Rattle.rtcp_engine.specs.declared.refusal.Refusal.{Refusal}
use Rattle.rtcp_engine.specs.declared.refusal.Refusal.TheVariants.{Left, Backwards, TooFar, TooMany, Wire, Rtp, OwnSsrc, Settings}
use Rattle.rtcp_engine.specs.answers.Acts.{OutValue, StepValue, AnswerValue}
use Rattle.rtcp_guarded.specs.Guarded.{GuardedAnswer}
use Rattle.rtcp_guarded.specs.declared.untaken.Reason.{Reason}
use Rattle.rtcp_guarded.specs.declared.untaken.Untaken.TheVariants.{Refused, HeldBack}
use Rattle.rtcp_text.specs.AnswerText.{config_text, kind_text, rtp_fault_text}
use Rattle.rtcp_text.specs.Text.{reason_text}
use Rattle.rtcp_guarded_text.specs.GuardedText.{reason_text as guard_reason_text}
use Rattle.rtcp_json.specs.JsonValues.{number_json, word_json, octets_json, optional_json, object_of}

-- ---- Steps

abbrev pub counts_fields : (members senders : ℕ) → (next : Option ℕ) → List (List ℕ × Json)
counts_fields members senders next =
    (codes "members", number_json members)
    ∷ (codes "senders", number_json senders)
    ∷ (codes "next", optional_json number_json next)
    ∷ []

-- the start of a session, with the moment of its first tick
abbrev pub start_json : (next : Option ℕ) → Json
start_json next = object_of ((codes "start", object_of (counts_fields 1 0 next)) ∷ [])

-- a compound to send
abbrev pub out_json : OutValue → Json
out_json out = object_of ((codes "kind", string (kind_text out.kind)) ∷ (codes "octets", octets_json out.octets) ∷ [])

abbrev pub step_json : StepValue → Json
step_json step = object_of (
    counts_fields step.members step.senders step.next
    ++ (codes "out", optional_json out_json step.out)
    ∷ (codes "ssrc", optional_json word_json step.changed)
    ∷ []
    )

-- ---- Refusals

-- the rule that a call breaks, and more of it
abbrev pub refused_json : (rule : List ℕ) → List (List ℕ × Json) → Json
refused_json rule more = object_of ((codes "refused", string rule) ∷ more)

-- the same with the rule of what is in the call
abbrev pub caused_json : (rule fault : List ℕ) → Json
caused_json rule fault = refused_json rule ((codes "fault", string fault) ∷ [])

abbrev pub refusal_json : Refusal → Json
refusal_json Left = refused_json (codes "E1 Left") []
refusal_json Backwards = refused_json (codes "E2 Backwards") []
refusal_json TooFar = refused_json (codes "E3 TooFar") []
refusal_json TooMany = refused_json (codes "E4 TooMany") []
refusal_json (Wire fault) = refused_json (codes "E5 Wire") (
    (codes "fault", string (reason_text fault.reason))
    ∷ (codes "at", number_json fault.place)
    ∷ []
    )
refusal_json (Rtp fault) = caused_json (codes "E6 Rtp") (rtp_fault_text fault)
refusal_json OwnSsrc = refused_json (codes "E7 OwnSsrc") []
refusal_json (Settings error) = caused_json (codes "E8 Settings") (config_text error)

-- ---- Answers

abbrev pub answer_json : AnswerValue → Json
answer_json (Ok step) = step_json step
answer_json (Err refusal) = refusal_json refusal

-- a datagram that the guard holds back
abbrev pub held_back_json : Reason → Json
held_back_json reason = refused_json (guard_reason_text reason) []

abbrev pub guarded_answer_json : GuardedAnswer → Json
guarded_answer_json (Ok step) = step_json step
guarded_answer_json (Err (Refused refusal)) = refusal_json refusal
guarded_answer_json (Err (HeldBack reason)) = held_back_json reason
