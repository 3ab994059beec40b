-- Worked rows: sessions whose host says that a source is gone.
use Rattle.std.proofs.Common.{◌≡◌, ℕ, [], ◌∷◌, Err, None, Ok}
use Rattle.rtcp_wire.specs.Values.{rr, bye}
use Rattle.rtcp_engine.specs.declared.refusal.Refusal.TheVariants.{Backwards}
use Rattle.rtcp_engine.specs.answers.Acts.{Act, rtcp, arrived, ticked, forgotten}
use Rattle.rtcp_engine.specs.answers.Answers.{answers_to}
use Rattle.rtcp_engine.proofs.examples.Rows.{start, named_came, ok, moved, sends, empty_report}

abbrev bye_came : (moment ssrc : ℕ) → Act
bye_came moment ssrc = arrived moment 1 0 (rtcp 16 (Ok (rr ssrc [] [] ∷ bye (ssrc ∷ []) None ∷ [])))

record Forgets : Type 0 where
  -- A member is one no more, and its place is free. Named again, it is new.
  one_gone : answers_to start (named_came 0 9 ∷ forgotten 500000 9 ∷ named_came 600000 9 ∷ [])
      ≡ moved (ok 2 0 1 1026037) ∷ moved (ok 1 0 0 1026037) ∷ moved (ok 2 0 1 1026037) ∷ []
  -- The members are counted again: half of them are left, and half of the time until the next report.
  counted_again : answers_to start (named_came 0 9 ∷ ticked 1026037 0 0 ∷ forgotten 2000000 9 ∷ [])
      ≡ moved (ok 2 0 1 1026037) ∷ sends 2 0 1 3078111 empty_report ∷ moved (ok 1 0 0 2539055) ∷ []
  -- Nothing happens where there is no such source, or the participant itself is meant,
  nobody_gone : answers_to start (named_came 0 9 ∷ forgotten 500000 8 ∷ forgotten 500000 170 ∷ [])
      ≡ moved (ok 2 0 1 1026037) ∷ ok 2 0 1 1026037 ∷ ok 2 0 1 1026037 ∷ []
  -- and where the source sent a BYE: its entry is held, so that a late packet does not bring it back.
  gone_already : answers_to start (named_came 0 9 ∷ bye_came 100000 9 ∷ forgotten 500000 9
      ∷ named_came 600000 9 ∷ [])
      ≡ moved (ok 2 0 1 1026037) ∷ moved (ok 1 0 1 1026037) ∷ ok 1 0 1 1026037 ∷ ok 1 0 1 1026037 ∷ []
  -- It is refused as any other call.
  refused : answers_to start (named_came 500000 9 ∷ forgotten 400000 9 ∷ [])
      ≡ moved (ok 2 0 1 1026037) ∷ Err Backwards ∷ []

forgets : Forgets
forgets = search
