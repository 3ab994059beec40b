-- Worked rows: how late a report comes at the latest.
use Rattle.std.proofs.Common.{◌≡◌, List, [], ◌∷◌, None, Ok, refl, arith}
use Rattle.rtcp_wire.specs.Values.{rr, bye}
use Rattle.rtcp_engine.specs.answers.Acts.{rtcp, Act, arrived, ticked}
use Rattle.rtcp_engine.specs.answers.Histories.{History}
use Rattle.rtcp_engine.specs.bounds.InTime.{greatest_interval, last_fall, longest_wait, IsOverdue}
use Rattle.rtcp_engine.proofs.examples.Rows.{setup, named_came}

abbrev after : List Act → History
after acts = record { setup = setup; word = 0; acts = acts }

-- One report was sent: the interval is 5 seconds from then on.
abbrev reported : List Act
reported = ticked 1026037 0 4294967295 ∷ []

abbrev late_tick : Act
late_tick = ticked 7182258 4294967295 0

before_a_report : greatest_interval setup 0 [] ≡ 2500000
before_a_report = refl

after_a_report : longest_wait (after reported) late_tick ≡ 6156221
after_a_report = refl

late : IsOverdue (after reported) late_tick
late = (omega arith, omega arith)

a_microsecond_sooner : IsOverdue (after reported) (ticked 7182257 4294967295 0) → ⊥
a_microsecond_sooner h = omega (arith, h.0)

-- Of two members one leaves: the wait begins anew.
abbrev fallen : List Act
fallen = arrived 3026037 1 0 (rtcp 16 (Ok (rr 1 [] [] ∷ bye (1 ∷ []) None ∷ []))) ∷ ticked 1026037 0
    4294967295 ∷ named_came 0 1 ∷ []

falls : last_fall setup 0 fallen ≡ 3026037
falls = refl

late_after_a_fall : IsOverdue (after fallen) (ticked 9182258 0 0)
late_after_a_fall = (omega arith, omega arith)

not_late_after_a_fall : IsOverdue (after fallen) (ticked 9182257 0 0) → ⊥
not_late_after_a_fall h = omega (arith, h.1)

-- A member that joins is no fall, and one that a check drops is.
abbrev named : List Act
named = named_came 0 1 ∷ []

joins : last_fall setup 0 named ≡ 0
joins = refl

dropped : last_fall setup 0 (ticked 20000000 0 0 ∷ named) ≡ 20000000
dropped = refl
