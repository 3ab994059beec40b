-- Where an act does not say that the others changed, each of them has the role that it had.
use Rattle.std.proofs.Common.{◌≡◌, ℕ, ◌+◌, ◌-◌, ◌==◌, not, false, List, [], ◌∷◌, length, drop, Option, Some, None, Ok, arith, refl, sym, ap, ◌∙◌, subst}
use Rattle.std.proofs.lemmas.Bool.Decides.{nat_tests}
use Rattle.std.proofs.lemmas.List.{drop-drop}
use Rattle.rtcp_wire.specs.declared.fact.Fact.{Fact}
use Rattle.rtcp_wire.specs.Facts.{facts_of}
use Rattle.rtcp_members.specs.Entries.{EntryValue, counted_at, entry_at, members_at}
use Rattle.rtcp_members.specs.Roles.{IsSameRole}
use Rattle.rtcp_members.specs.Traces.{TraceStep, block_made_of, fact_came, with_facts, source_forgotten, with_blocks}
use Rattle.rtcp_members.proofs.LawLemmas as tables
use Rattle.rtcp_engine.specs.answers.Acts.{Act, arrived, configured, left, rtcp, rtp, ticked, forgotten}
use Rattle.rtcp_engine.specs.answers.Answers.{step_by}
use Rattle.rtcp_engine.specs.answers.Arrivals.{after, facts_of_media, media_fact, rate_of}
use Rattle.rtcp_engine.specs.answers.Changes.{NewIdentifier, Session, change_by, changed_by}
use Rattle.rtcp_engine.specs.answers.Histories.{History, session_at, session_for, setup_after, with_act}
use Rattle.rtcp_engine.specs.answers.Leaving.{Life, backing_off, finished, left_at, present}
use Rattle.rtcp_engine.specs.answers.Lives.{entry_in_life, lived, moved_since, others_moved_by}
use Rattle.rtcp_engine.specs.answers.Outcomes.{Outcome}
use Rattle.rtcp_engine.proofs.LifeLemmas.{of_check, of_leave, of_wait}
use Rattle.rtcp_engine.specs.answers.Reporting.{reported_at}
use Rattle.rtcp_engine.specs.answers.Setups.{Setup}
use Rattle.rtcp_engine.specs.answers.Ticks.{after_check, after_tick, checked}
use Rattle.rtcp_engine.proofs.RolesChanged.{leave_moves}

-- ---- Traces that go on

-- A trace is another one with so many steps more.
record GoesOn (older newer : List TraceStep) : Type 0 where
  more : ℕ
  longer : length newer ≡ more + length older
  rest : drop more newer ≡ older

goes_nowhere : (trace : List TraceStep) → GoesOn trace trace
goes_nowhere trace = record { more = 0; longer = omega arith; rest = refl }

one_sooner : {step : TraceStep} {older newer : List TraceStep} → GoesOn (step ∷ older) newer → GoesOn older newer
one_sooner {step} {older} {newer} on = record {
  more = on.more + 1;
  longer = longer;
  rest = sym (drop-drop 1 on.more newer) ∙ ap (drop 1) on.rest;
}
  where
    longer : length newer ≡ on.more + 1 + length older
    longer = omega (arith, on.longer)

facts_go_on : (facts : List Fact) (t : ℕ) (trace : List TraceStep) → GoesOn trace (with_facts facts t trace)
facts_go_on [] t trace = goes_nowhere trace
facts_go_on (fact ∷ facts) t trace = one_sooner (facts_go_on facts t (fact_came fact t ∷ trace))

blocks_go_on : (ssrcs : List ℕ) (trace : List TraceStep) → GoesOn trace (with_blocks ssrcs trace)
blocks_go_on [] trace = goes_nowhere trace
blocks_go_on (ssrc ∷ ssrcs) trace = one_sooner (blocks_go_on ssrcs (block_made_of ssrc ∷ trace))

-- ---- One that takes part

report_goes_on : (setup : Setup) (t first_word second_word : ℕ) (outcome : Outcome) →
    GoesOn outcome.trace (after_check setup t first_word second_word outcome).trace
report_goes_on setup t first_word second_word outcome =
    of_check (λ (now : Outcome). GoesOn outcome.trace now.trace) setup t first_word second_word outcome
    (goes_nowhere outcome.trace) (goes_nowhere outcome.trace) (blocks_go_on (reported_at setup t outcome) outcome.trace)

goes_on : (setup : Setup) (act : Act) (outcome : Outcome) → GoesOn outcome.trace (after setup act outcome).trace
goes_on setup (arrived t peer word (rtcp size (Ok packets))) outcome = facts_go_on (facts_of packets) t outcome.trace
goes_on setup (arrived t peer word (rtp (Ok head))) outcome =
    facts_go_on (facts_of_media setup.ssrc (rate_of setup head) head
    (counted_at setup.capacity outcome.trace (media_fact (rate_of setup head) head)))
    t outcome.trace
goes_on setup (ticked t first_word second_word) outcome =
    one_sooner (report_goes_on setup t first_word second_word (checked setup t outcome))
goes_on setup (forgotten t ssrc) outcome = one_sooner (goes_nowhere (source_forgotten ssrc ∷ outcome.trace))
goes_on setup act outcome = goes_nowhere outcome.trace

kept_since : (setup : Setup) (before now : Outcome) → GoesOn before.trace now.trace →
    moved_since setup before now ≡ false → (ssrc : ℕ)
    → IsSameRole (entry_at setup.capacity before.trace ssrc)
    (entry_at setup.capacity now.trace ssrc)
kept_since setup before now on still ssrc =
    subst (λ (trace : List TraceStep). IsSameRole (entry_at setup.capacity trace ssrc)
    (entry_at setup.capacity now.trace ssrc)) (ap (λ (n : ℕ). drop n now.trace) as_many ∙ on.rest)
    (tables.roles_move_with_counts-within setup.capacity (length now.trace - length before.trace) now.trace
    still ssrc)
  where
    as_many : length now.trace - length before.trace ≡ on.more
    as_many = omega (arith, on.longer)

-- ---- Leaves

nobody_left : (setup : Setup) (t word : ℕ) (outcome : Outcome) (ssrc : ℕ) →
    entry_in_life setup (left_at setup t word outcome) ssrc ≡ None
nobody_left setup t word outcome ssrc =
    of_leave (λ (life : Life). entry_in_life setup life ssrc ≡ None) setup t word outcome refl refl

no_others : (n : ℕ) → not (n == 0) ≡ false → n ≡ 0
no_others n e = grind (arith, nat_tests, e)

same_backwards : (one other : Option EntryValue) → IsSameRole one other → IsSameRole other one
same_backwards one other same = (sym same.0, sym same.1)

kept_by_leave : (setup : Setup) (t word : ℕ) (outcome : Outcome) → others_moved_by setup (left t word) (present outcome)
    ≡ false → (ssrc : ℕ)
    → IsSameRole (entry_in_life setup (present outcome) ssrc) (entry_in_life setup (left_at setup t word outcome) ssrc)
kept_by_leave setup t word outcome still ssrc =
    let none = no_others (members_at setup.capacity outcome.trace)
    (leave_moves setup t word outcome ∙ still) in
    subst (IsSameRole (entry_at setup.capacity outcome.trace ssrc))
    (sym (nobody_left setup t word outcome ssrc))
    (same_backwards None (entry_at setup.capacity outcome.trace ssrc)
    (tables.roles_move_with_counts-none setup.capacity outcome.trace none ssrc))

-- ---- Lives

still_waiting : (setup : Setup) (t word : ℕ) (outcome : Outcome)
    (backoff : Rattle.rtcp_engine.specs.answers.Leaving.Backoff)
    (ssrc : ℕ)
    → entry_in_life setup (Rattle.rtcp_engine.specs.answers.Leaving.after_waiting_tick setup t word outcome backoff)
    ssrc ≡ None
still_waiting setup t word outcome backoff ssrc =
    of_wait (λ (life : Life). entry_in_life setup life ssrc ≡ None) setup t word outcome backoff refl refl

kept_in : (setup : Setup) (act : Act) (life : Life) → others_moved_by setup act life ≡ false → (ssrc : ℕ) →
    IsSameRole (entry_in_life setup life ssrc) (entry_in_life setup (lived setup act life) ssrc)
kept_in setup (arrived t peer word datagram) (present outcome) still ssrc =
    kept_since setup outcome (after setup (arrived t peer word datagram) outcome)
    (goes_on setup (arrived t peer word datagram) outcome) still ssrc
kept_in setup (ticked t first_word second_word) (present outcome) still ssrc =
    kept_since setup outcome (after_tick setup t first_word second_word outcome)
    (goes_on setup (ticked t first_word second_word) outcome) still ssrc
kept_in setup (left t word) (present outcome) still ssrc = kept_by_leave setup t word outcome still ssrc
kept_in setup (forgotten t other) (present outcome) still ssrc =
    kept_since setup outcome (after setup (forgotten t other) outcome) (goes_on setup (forgotten t other) outcome) still
    ssrc
kept_in setup act (present outcome) still ssrc = (refl, refl)
kept_in setup (ticked t first_word second_word) (backing_off outcome backoff) still ssrc =
    subst (IsSameRole None) (sym (still_waiting setup t first_word outcome backoff ssrc)) (refl, refl)
kept_in setup (arrived t peer word (rtcp size reading)) (backing_off outcome backoff) still ssrc = (refl, refl)
kept_in setup act life still ssrc = (refl, refl)

-- A change of identifier changes nothing of the others.
same_in_change : (session : Session) (change : Option NewIdentifier) (ssrc : ℕ) → let now = changed_by change session in
    entry_in_life session.setup session.life ssrc ≡ entry_in_life now.setup now.life ssrc
same_in_change session None ssrc = refl
same_in_change session (Some new) ssrc = under session.setup new session.life
  where
    under : (setup : Setup) (new : NewIdentifier) (life : Life)
        → entry_in_life setup life ssrc ≡ entry_in_life
        (Rattle.rtcp_engine.specs.answers.Identities.with_ssrc new.ssrc setup)
        (Rattle.rtcp_engine.specs.answers.Lives.with_new_ssrc setup life) ssrc
    under setup new (present outcome) = refl
    under setup new (backing_off outcome backoff) = refl
    under setup new (finished outcome) = refl

-- Nor do other settings.
same_when_set : (act : Act) (setup : Setup) (life : Life) (ssrc : ℕ) →
    entry_in_life setup life ssrc ≡ entry_in_life (setup_after act setup) life ssrc
same_when_set (configured moment settings) setup (present outcome) ssrc = refl
same_when_set (configured moment settings) setup life ssrc = refl
same_when_set act setup life ssrc = refl

pub others_kept : (history : History) (act : Act) → (step_by history act).others_changed ≡ false → (ssrc : ℕ)
    → let before = session_at history in let next = session_at (with_act history act) in
    IsSameRole (entry_in_life before.setup before.life ssrc) (entry_in_life next.setup next.life ssrc)
others_kept history act still ssrc =
    let before = session_at history in
    let now = session_for before act in
    let life = lived now.setup act now.life in
    subst (λ (entry : Option EntryValue). IsSameRole entry (entry_in_life (setup_after act now.setup) life ssrc))
    (sym (same_in_change before (change_by before act) ssrc))
    (subst (IsSameRole (entry_in_life now.setup now.life ssrc))
    (same_when_set act now.setup life ssrc)
    (kept_in now.setup act now.life still ssrc))
