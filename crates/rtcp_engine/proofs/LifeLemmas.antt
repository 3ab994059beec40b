-- The phases of a participant, and what it counts in them.
use Rattle.std.proofs.Common.{◌≡◌, ℕ, ◌+◌, nat_le, min, sum_by, Bool, true, false, List, Option, Some, None, option_map, if◌then◌else◌, refl, sym, ap, ◌∙◌, arith}
use Rattle.std.proofs.lemmas.Bool.{cond_both}
use Rattle.std.proofs.lemmas.List.Sums.{sum_by-cons}
use Rattle.rtcp_timer.specs.Schedules.{Happening}
use Rattle.rtcp_engine.specs.declared.refusal.Refusal.{Refusal}
use Rattle.rtcp_engine.specs.answers.Setups.{Setup}
use Rattle.rtcp_engine.specs.answers.Outcomes.{Outcome, member_count}
use Rattle.rtcp_engine.specs.answers.Reporting.{bye_octets}
use Rattle.rtcp_engine.specs.answers.Answers.{call_refusal}
use Rattle.rtcp_engine.specs.answers.Leaving.{with_byes_of, ByeCompound, Backoff, Life, after_waiting_tick, is_bye_due, sent_nothing, few_members, backoff_from, bye_at_once, backing_off, finished, left_at, after_wait, leaving_count, leaving_timing}
use Rattle.rtcp_engine.specs.answers.Lives.{bye_out}
use Rattle.rtcp_engine.specs.answers.Ticks.{after_check, has_come, has_passed, put_off, reported}
use Rattle.rtcp_engine.specs.state.States.{PhaseValue, taking_part, leaving, over, ParticipantValue, refusal_by, refusal_in_phase}

-- ---- Phases

abbrev pub is_taking_part : PhaseValue → Bool
is_taking_part taking_part = true
is_taking_part (leaving members) = false
is_taking_part over = false

abbrev pub is_leaving : PhaseValue → Bool
is_leaving taking_part = false
is_leaving (leaving members) = true
is_leaving over = false

abbrev pub leaving_members : PhaseValue → ℕ
leaving_members taking_part = 0
leaving_members (leaving members) = members
leaving_members over = 0

-- ---- Calls

not_over : (phase : PhaseValue) (call : Option Refusal) → refusal_in_phase phase call ≡ None → phase ≡ over → ⊥
not_over taking_part call none ended = absurd (cc (ap is_taking_part ended))
not_over (leaving members) call none ended = absurd (cc (ap is_leaving ended))
not_over over call none ended = absurd cc

-- One that does not refuse a call is not gone.
pub is_there : (t : ℕ) (p : ParticipantValue) → refusal_by t p ≡ None → p.phase ≡ over → ⊥
is_there t p none = not_over p.phase (call_refusal t p.presence.latest p.presence.calls) none

-- ---- ByeCompounds

leaving_more : (members byes total new : ℕ) → members ≡ min 65535 (1 + total) →
    new ≡ min 65535 (members + min 65535 byes) → new ≡ min 65535 (1 + (byes + total))
leaving_more members byes total new count more = omega (arith, count, more)

pub leaving_counts : (size n members new : ℕ) (b : Backoff) → members ≡ leaving_count b →
    new ≡ min 65535 (members + min 65535 n) → new ≡ leaving_count (with_byes_of n size b)
leaving_counts size n members new b count more =
    leaving_more members n (sum_by (λ bye_compound. bye_compound.byes) b.bye_compounds) new count more
    ∙ ap (λ total. min 65535 (1 + total))
    (sym (sum_by-cons (λ (bye_compound : ByeCompound). bye_compound.byes) (record { byes = n; size = size })
    b.bye_compounds))

-- ---- Ticks of a backoff

keeps_byes : (come : Bool) (b : Backoff) (new : List Happening) →
    (if come then record b { happenings = new } else b).bye_compounds ≡ b.bye_compounds
keeps_byes true b new = refl
keeps_byes false b new = refl

wait_keeps_byes : (setup : Setup) (t word : ℕ) (b : Backoff) →
    (after_wait setup t word b).bye_compounds ≡ b.bye_compounds
wait_keeps_byes setup t word b = keeps_byes (nat_le (leaving_timing b).next t) b _

pub wait_keeps_count : (setup : Setup) (t word : ℕ) (b : Backoff) →
    leaving_count (after_wait setup t word b) ≡ leaving_count b
wait_keeps_count setup t word b =
    ap (λ (list : List ByeCompound). min 65535 (1 + sum_by (λ bye_compound. bye_compound.byes) list))
    (wait_keeps_byes setup t word b)

-- ---- Leaves

pub left_lives : (setup : Setup) (t w : ℕ) (o : Outcome) (nothing_sent few : Bool) → sent_nothing o ≡ nothing_sent →
    nat_le (member_count setup o) few_members ≡ few
    → left_at setup t w o ≡ if nothing_sent then finished o else
    (if few then finished o else backing_off o (backoff_from setup t w o))
left_lives setup t w o nothing_sent few sent_nothing is_few = λ i. if sent_nothing i then finished o else
    (if is_few i then finished o else backing_off o (backoff_from setup t w o))

pub left_byes : (setup : Setup) (o : Outcome) (nothing_sent few : Bool) → sent_nothing o ≡ nothing_sent →
    nat_le (member_count setup o) few_members ≡ few
    → option_map bye_out (bye_at_once setup o) ≡ option_map bye_out
    (if nothing_sent then None else (if few then Some (bye_octets setup) else None))
left_byes setup o nothing_sent few sent_nothing is_few = λ i. option_map bye_out
    (if sent_nothing i then None else (if is_few i then Some (bye_octets setup) else None))

-- ---- Cases

-- what is so of one that is gone and of one that backs off is so of one that leaves
pub of_leave : (P : Life → Type 0) (setup : Setup) (t word : ℕ) (o : Outcome) → P (finished o) →
    P (backing_off o (backoff_from setup t word o)) → P (left_at setup t word o)
of_leave P setup t word o ends waits =
    cond_both (sent_nothing o) (finished o) _ P (λ _. ends)
    (λ _. cond_both (nat_le (member_count setup o) few_members) (finished o) _ P (λ _. ends) (λ _. waits))

-- and so of one that is asked while it backs off
pub of_wait : (P : Life → Type 0) (setup : Setup) (t word : ℕ) (o : Outcome) (b : Backoff) → P (finished o) →
    P (backing_off o (after_wait setup t word b)) → P (after_waiting_tick setup t word o b)
of_wait P setup t word o b ends waits = cond_both (is_bye_due setup t word b) (finished o) _ P (λ _. ends) (λ _. waits)

-- what is so whether a report is put off, sent or not yet asked for is so after a check
pub of_check : (P : Outcome → Type 0) (setup : Setup) (t first_word second_word : ℕ) (o : Outcome) → P o →
    P (put_off setup t first_word o) → P (reported setup t second_word o) →
    P (after_check setup t first_word second_word o)
of_check P setup t first_word second_word o early late sent =
    cond_both (has_come t o) _ o P (λ _. cond_both (has_passed setup t first_word o) _ _ P (λ _. sent) (λ _. late))
    (λ _. early)
