-- Worked rows: a participant with SSRC 0xaa and the CNAME `a` leaves.
use Rattle.std.proofs.Common.{◌≡◌, ℕ, zero, suc, List, [], ◌∷◌, ◌++◌, drop, Some, None, Ok, Err, refl}
use Rattle.rtcp_wire.specs.Values.{rr, bye}
use Rattle.rtcp_engine.specs.declared.refusal.Refusal.TheVariants.{Left}
use Rattle.rtcp_engine.specs.declared.step.OutKind.TheVariants.{Bye}
use Rattle.rtcp_engine.specs.answers.Acts.{rtcp, Act, arrived, rtp_sent, ticked, left, AnswerValue}
use Rattle.rtcp_engine.specs.answers.Answers.{answers_to}
use Rattle.rtcp_engine.proofs.examples.Rows.{start, ok, moved, sends, step_with, empty_report, named_came}

abbrev silently_gone : AnswerValue
silently_gone = Ok (step_with None 0 0 0 None None)

-- an empty report, the CNAME and the BYE
abbrev says_bye : AnswerValue
says_bye = Ok (step_with (Some
    (record { kind = Bye; octets = empty_report ++ 129 ∷ 203 ∷ 0 ∷ 1 ∷ 0 ∷ 0 ∷ 0 ∷ 170 ∷ [] })) 0 0 0 None None)

record Leaves : Type 0 where
  -- One that sent nothing leaves silently, and is asked in vain from then on. A tick alone sends nothing.
  nothing_sent : answers_to start (ticked 0 0 0 ∷ left 0 0 ∷ ticked 0 0 0 ∷ left 0 0 ∷ arrived 0 1 0
      (rtcp 8 (Ok (rr 7 [] [] ∷ []))) ∷ [])
      ≡ ok 1 0 0 1026037 ∷ silently_gone ∷ Err Left ∷ Err Left ∷ Err Left ∷ []
  -- With few members the BYE goes out at once, after a report or an RTP packet.
  after_report : answers_to start (ticked 1026037 0 0 ∷ left 10000000 0 ∷ [])
      ≡ sends 1 0 0 3078111 empty_report ∷ says_bye ∷ []
  after_packet : answers_to start (rtp_sent 0 0 0 ∷ left 0 0 ∷ []) ≡ ok 1 1 0 1026037 ∷ says_bye ∷ []

leaves : Leaves
leaves = search

-- so many others, named at moment 0
abbrev named : ℕ → List Act
named zero = []
named (suc n) = named_came 0 (suc n) ∷ named n

-- With 50 members too,
fifty : drop 50 (answers_to start (rtp_sent 0 0 0 ∷ named 49 ++ left 10000000 0 ∷ [])) ≡ moved says_bye ∷ []
fifty = refl

-- and with 51 it backs off: others' BYE packets count, and nothing else.
fifty_one : drop 51 (answers_to start
    (rtp_sent 0 0 0 ∷ named 50 ++ left 10000000 0 ∷ arrived 10000000 1 0
    (rtcp 16 (Ok (rr 1 [] [] ∷ bye (1 ∷ []) None ∷ [])))
    ∷ left 10000000 4294967295 ∷ rtp_sent 10000000 0 0 ∷ named_came 10000000 99 ∷ ticked 11026036 0 0 ∷ ticked 11026037
    0 0 ∷ ticked 11026037 0 0 ∷ []))
    ≡ moved (ok 1 0 0 11026037) ∷ ok 2 0 0 11026037 ∷ ok 2 0 0 11026037 ∷ ok 2 0 0 11026037 ∷ ok 2 0 0 11026037 ∷ ok 2 0
    0 11026037 ∷ says_bye ∷ Err Left ∷ []
fifty_one = refl
