-- Worked rows: changes of identifier (RFC 3550, 8.2).
use Rattle.std.proofs.Common.{◌≡◌, ℕ, List, [], ◌∷◌, ◌++◌, drop, Some, None, Ok, Err}
use Rattle.rtcp_wire.specs.Values.{rr, sdes}
use Rattle.rtcp_engine.specs.declared.refusal.Refusal.TheVariants.{OwnSsrc}
use Rattle.rtcp_engine.specs.declared.step.OutKind.TheVariants.{Bye}
use Rattle.rtcp_engine.specs.answers.Acts.{rtcp, Act, arrived, rtp_sent, ticked, left, AnswerValue}
use Rattle.rtcp_engine.specs.answers.Answers.{answers_to}
use Rattle.rtcp_engine.proofs.examples.Rows.{start, ok, moved, sends, step_with, empty_report, items_a}

-- an empty report of a source that came from a peer, with a random word
abbrev report_came : (moment peer word ssrc : ℕ) → Act
report_came moment peer word ssrc = arrived moment peer word (rtcp 8 (Ok (rr ssrc [] [] ∷ [])))

abbrev changes_to : (members senders entries next ssrc : ℕ) → AnswerValue
changes_to members senders entries next ssrc = Ok (step_with None members senders entries (Some next) (Some ssrc))

abbrev says_bye : (members senders entries next ssrc : ℕ) → List ℕ → AnswerValue
says_bye members senders entries next ssrc octets =
    Ok (step_with (Some (record { kind = Bye; octets = octets })) members senders entries (Some next) (Some ssrc))

abbrev bye_of_170 : List ℕ
bye_of_170 = empty_report ++ 129 ∷ 203 ∷ 0 ∷ 1 ∷ 0 ∷ 0 ∷ 0 ∷ 170 ∷ []

abbrev empty_report_of_187 : List ℕ
empty_report_of_187 = 128 ∷ 201 ∷ 0 ∷ 1 ∷ 0 ∷ 0 ∷ 0 ∷ 187 ∷ 129 ∷ 202 ∷ 0 ∷ 2 ∷ 0 ∷ 0 ∷ 0 ∷ 187 ∷ 1 ∷ 1 ∷ 97 ∷ 0 ∷ []

abbrev own_report_came : (moment peer word : ℕ) → Act
own_report_came moment peer word =
    arrived moment peer word (rtcp 20 (Ok (rr 170 [] [] ∷ sdes (record { id = 170; items = items_a } ∷ []) ∷ [])))

record Identifiers : Type 0 where
  -- The participant takes the word as its identifier, and hears its old one from then on as another's. A peer brings
  -- one change; and an identifier that it had is not taken again.
  changes : answers_to start (report_came 0 7 187 170 ∷ report_came 0 7 187 170 ∷ report_came 0 7 204 187
      ∷ report_came 0 8 170 187 ∷ [])
      ≡ changes_to 1 0 1 1026037 187 ∷ ok 1 0 1 1026037 ∷ Err OwnSsrc ∷ changes_to 1 0 2 1026037 171 ∷ []
  -- After a report the old identifier sends a BYE, and the next report is under the new one.
  after_a_report : answers_to start (ticked 1026037 0 0 ∷ own_report_came 1026037 7 187 ∷ ticked 3078111 0 0 ∷ [])
      ≡ sends 1 0 0 3078111 empty_report ∷ moved (says_bye 2 0 1 3078111 187 bye_of_170) ∷ sends 2 0 1 5130185
      empty_report_of_187 ∷ []
  -- After a packet too. The counts begin anew, and the participant is still a sender.
  after_a_packet : answers_to start (rtp_sent 0 1000 160 ∷ report_came 0 7 187 170 ∷ ticked 1026037 0 0 ∷ [])
      ≡ ok 1 1 0 1026037 ∷ says_bye 1 1 1 1026037 187 bye_of_170
      ∷ sends 1 1 1 3078111 (128 ∷ 200 ∷ 0 ∷ 6 ∷ 0 ∷ 0 ∷ 0 ∷ 187 ∷ 0 ∷ 0 ∷ 0 ∷ 1 ∷ 6 ∷ 170 ∷ 92 ∷ 95 ∷ 0 ∷ 0 ∷ 35 ∷ 248
      ∷ 0 ∷ 0 ∷ 0 ∷ 0 ∷ 0 ∷ 0 ∷ 0 ∷ 0 ∷ 129 ∷ 202 ∷ 0 ∷ 2 ∷ 0 ∷ 0 ∷ 0 ∷ 187 ∷ 1 ∷ 1 ∷ 97 ∷ 0 ∷ []) ∷ []
  -- Eight peers bring a change, and no ninth.
  eight : drop 8 (answers_to start
      (report_came 0 1 1000 170 ∷ report_came 0 2 1001 1000 ∷ report_came 0 3 1002 1001 ∷ report_came 0 4 1003 1002
      ∷ report_came 0 5 1004 1003 ∷ report_came 0 6 1005 1004 ∷ report_came 0 7 1006 1005 ∷ report_came 0 8 1007
      1006 ∷ report_came 0 9 1008 1007 ∷ []))
      ≡ Err OwnSsrc ∷ []
  -- A leave with nothing said since the change is silent.
  leaves_silently : drop 2 (answers_to start (ticked 1026037 0 0 ∷ own_report_came 1026037 7 187 ∷ left 1026037 0 ∷ []))
      ≡ moved (Ok (step_with None 0 0 0 None None)) ∷ []

identifiers : Identifiers
identifiers = search
