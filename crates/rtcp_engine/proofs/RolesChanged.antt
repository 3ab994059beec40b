-- What changes who of the others is a member, or who of them sends: by the table, and by what a session has come to.
use Rattle.std.proofs.Common.{◌≡◌, ◌≤◌, ℕ, suc, ◌+◌, ◌-◌, ◌==◌, ◌||◌, not, Bool, true, false, List, [], ◌∷◌, length, arith, refl, sym, ap, ◌∙◌}
use Rattle.rtcp_wire.specs.declared.fact.Fact.{Fact}
use Rattle.rtcp_wire.specs.Facts.{facts_of}
use Rattle.rtcp_wire.specs.Values.{RtcpPacket, RtpValue}
use Rattle.rtcp_members.specs.Entries.{counted_at, moved_within, step_moves}
use Rattle.rtcp_members.specs.Roles.{check_moves, facts_move, forgetting_moves}
use Rattle.rtcp_members.specs.Tables.{counted, members_in}
use Rattle.rtcp_members.specs.Traces.{Horizons, TraceStep, block_made_of, check_made, fact_came, with_facts, source_forgotten, with_blocks}
use Rattle.rtcp_members.proofs.LawLemmas as tables
use Rattle.rtcp_engine.specs.answers.Arrivals.{facts_of_media, media_fact, rate_of, with_facts_of}
use Rattle.rtcp_engine.specs.answers.Leaving.{Life, left_at}
use Rattle.rtcp_engine.specs.answers.Lives.{has_others, moved_since, others_moved_into, with_media}
use Rattle.rtcp_engine.specs.answers.Outcomes.{Outcome, check_interval}
use Rattle.rtcp_engine.specs.answers.Reporting.{reported_at}
use Rattle.rtcp_engine.specs.answers.Setups.{Setup}
use Rattle.rtcp_engine.specs.state.States.{State, Agrees, HasOthers, MovesOthers}
use Rattle.rtcp_engine.specs.answers.Ticks.{after_check, after_tick, checked, horizons_of, without_silent, with_forgotten}
use Rattle.rtcp_engine.proofs.Agreeing.{others_agree}
use Rattle.rtcp_engine.proofs.LifeLemmas.{of_check, of_leave}
use Rattle.rtcp_engine.proofs.StepLemmas.{IsCheckInterval, of_view, seen}

-- ---- Traces

length_with_facts : (facts : List Fact) (moment : ℕ) (trace : List TraceStep) →
    length (with_facts facts moment trace) ≡ length facts + length trace
length_with_facts [] moment trace = omega arith
length_with_facts (fact ∷ facts) moment trace =
    omega (arith, length_with_facts facts moment (fact_came fact moment ∷ trace))

module _ (capacity : ℕ) where
  -- where no step is added
  pub none_since : (trace : List TraceStep) → false ≡ moved_within capacity (length trace - length trace) trace
  none_since trace = sym (ap (λ (n : ℕ). moved_within capacity n trace) none_more)
    where
      none_more : length trace - length trace ≡ 0
      none_more = omega arith

  -- where one is
  one_since : (step : TraceStep) (trace : List TraceStep) → step_moves capacity step trace ≡ moved_within capacity
      (length (step ∷ trace) - length trace) (step ∷ trace)
  one_since step trace = sym (or_none (step_moves capacity step trace))
      ∙ sym (ap (λ (n : ℕ). moved_within capacity n (step ∷ trace)) one_more)
    where
      one_more : length (step ∷ trace) - length trace ≡ suc 0
      one_more = omega arith

      or_none : (b : Bool) → (b || false) ≡ b
      or_none true = refl
      or_none false = refl

  -- Blocks move nobody.
  blocks_since : (ssrcs : List ℕ) (before : ℕ) (trace : List TraceStep) → before ≤ length trace
      → moved_within capacity (length (with_blocks ssrcs trace) - before) (with_blocks ssrcs trace) ≡ moved_within
      capacity (length trace - before) trace
  blocks_since [] before trace within = refl
  blocks_since (ssrc ∷ ssrcs) before trace within =
      blocks_since ssrcs before (block_made_of ssrc ∷ trace) (omega (arith, within))
      ∙ ap (λ (n : ℕ). moved_within capacity n (block_made_of ssrc ∷ trace)) one_more
      ∙ ap (λ (b : Bool). b || moved_within capacity (length trace - before) trace)
      (tables.roles_move_with_counts-block capacity ssrc trace)
    where
      one_more : length (block_made_of ssrc ∷ trace) - before ≡ suc (length trace - before)
      one_more = omega (arith, within)

-- ---- Arrivals

facts_since : (s : State) (outcome : Outcome) (facts : List Fact) (t : ℕ) → Agrees s outcome
    → facts_move facts t s.table ≡ moved_within s.setup.capacity
    (length (with_facts facts t outcome.trace) - length outcome.trace) (with_facts facts t outcome.trace)
facts_since s outcome facts t a =
    tables.moves_follow_traces-facts facts t s.table outcome.trace a.still.table
    ∙ (λ i. moved_within (a.still.capacity i) (sym as_many i) (with_facts facts t outcome.trace))
  where
    as_many : length (with_facts facts t outcome.trace) - length outcome.trace ≡ length facts
    as_many = omega (arith, length_with_facts facts t outcome.trace)

pub moves_facts : {s w : State} → s ≡ w → (t size : ℕ) (packets : List RtcpPacket) (moved : Bool) →
    moved ≡ facts_move (facts_of packets) t s.table → MovesOthers w moved (λ setup. with_facts_of t size packets)
moves_facts {s} {w} is t size packets moved moved_is =
    of_view is (λ setup outcome. moved_since setup outcome (with_facts_of t size packets outcome))
    (λ outcome a. moved_is ∙ facts_since s outcome (facts_of packets) t a)

pub moves_media : {s w : State} → s ≡ w → (t : ℕ) (head : RtpValue) (moved : Bool) →
    moved ≡ facts_move (facts_of_media s.setup.ssrc (rate_of s.setup head) head
    (counted s.table (media_fact (rate_of s.setup head) head))) t s.table →
    MovesOthers w moved (λ setup. with_media setup t head)
moves_media {s} {w} is t head moved moved_is =
    of_view is (λ setup outcome. moved_since setup outcome (with_media setup t head outcome)) (λ outcome a.
    let same : counted s.table (media_fact (rate_of s.setup head) head) ≡ counted_at s.setup.capacity outcome.trace
    (media_fact (rate_of s.setup head) head) =
    tables.counts_agree-counted s.table outcome.trace (media_fact (rate_of s.setup head) head) a.still.table
    ∙ (λ i. counted_at (a.still.capacity i) outcome.trace (media_fact (rate_of s.setup head) head)) in
    moved_is ∙ ap (λ (b : Bool). facts_move (facts_of_media s.setup.ssrc (rate_of s.setup head) head b) t s.table) same
    ∙ facts_since s outcome (facts_of_media s.setup.ssrc (rate_of s.setup head) head
    (counted_at s.setup.capacity outcome.trace (media_fact (rate_of s.setup head) head))) t a)

-- ---- Ticks

pub check_since : (s : State) (outcome : Outcome) (horizons : Horizons) → Agrees s outcome
    → check_moves horizons s.table ≡ moved_within s.setup.capacity
    (length (check_made horizons ∷ outcome.trace) - length outcome.trace) (check_made horizons ∷ outcome.trace)
check_since s outcome horizons a =
    tables.moves_follow_traces-check s.table outcome.trace horizons a.still.table
    ∙ (λ i. step_moves (a.still.capacity i) (check_made horizons) outcome.trace)
    ∙ one_since s.setup.capacity (check_made horizons) outcome.trace

pub moves_check : {s w : State} → s ≡ w → (t td : ℕ) (moved : Bool) → IsCheckInterval w t td →
    moved ≡ check_moves (horizons_of t td) s.table → MovesOthers w moved (λ setup. without_silent setup t)
moves_check {s} {w} is t td moved interval moved_is outcome agrees =
    moved_is
    ∙ ap (λ (d : ℕ). check_moves (horizons_of t d) s.table) (interval outcome agrees)
    ∙ check_since s outcome (horizons_of t (check_interval w.setup t outcome))
    (seen is outcome agrees)
    ∙ ap (λ (setup : Setup). moved_since setup outcome (without_silent w.setup t outcome))
    (ap (λ (x : State). x.setup) is)

forgotten_since : (s : State) (outcome : Outcome) (ssrc : ℕ) → Agrees s outcome
    → forgetting_moves ssrc s.table ≡ moved_within s.setup.capacity
    (length (source_forgotten ssrc ∷ outcome.trace) - length outcome.trace) (source_forgotten ssrc ∷ outcome.trace)
forgotten_since s outcome ssrc a =
    tables.moves_follow_traces-forgotten s.table outcome.trace ssrc a.still.table
    ∙ (λ i. step_moves (a.still.capacity i) (source_forgotten ssrc) outcome.trace)
    ∙ one_since s.setup.capacity (source_forgotten ssrc) outcome.trace

pub moves_forgotten : {s w : State} → s ≡ w → (ssrc : ℕ) (moved : Bool) → moved ≡ forgetting_moves ssrc s.table →
    MovesOthers w moved (λ setup. with_forgotten ssrc)
moves_forgotten {s} {w} is ssrc moved moved_is =
    of_view is (λ setup outcome. moved_since setup outcome (with_forgotten ssrc outcome))
    (λ outcome a. moved_is ∙ forgotten_since s outcome ssrc a)

-- A report after the check moves nobody.
report_since : (setup : Setup) (t first_word second_word : ℕ) (before outcome : Outcome) →
    length before.trace ≤ length outcome.trace
    → moved_since setup before outcome ≡ moved_since setup before (after_check setup t first_word second_word outcome)
report_since setup t first_word second_word before outcome within =
    of_check (λ (now : Outcome). moved_since setup before outcome ≡ moved_since setup before now) setup t first_word
    second_word outcome refl refl
    (sym (blocks_since setup.capacity (reported_at setup t outcome) (length before.trace) outcome.trace
    within))

pub moves_tick : {s : State} (t first_word second_word : ℕ) (moved : Bool) →
    MovesOthers s moved (λ setup. checked setup t) →
    MovesOthers s moved (λ setup. after_tick setup t first_word second_word)
moves_tick {s} t first_word second_word moved check outcome agrees =
    check outcome agrees ∙ report_since s.setup t first_word second_word outcome (checked s.setup t outcome) one_more
  where
    one_more : length outcome.trace ≤ length (checked s.setup t outcome).trace
    one_more = omega arith

-- ---- Leaves

pub others_there : {s w : State} → s ≡ w → (others : Bool) → others ≡ not (members_in s.table == 0) → HasOthers w others
others_there {s} {w} is others others_is =
    of_view is (λ setup outcome. has_others setup outcome)
    (λ outcome a. others_is ∙ ap (λ (n : ℕ). not (n == 0)) (others_agree s outcome a))

-- Whatever becomes of one that leaves, it tells of nobody any more.
pub leave_moves : (setup : Setup) (t word : ℕ) (outcome : Outcome) →
    has_others setup outcome ≡ others_moved_into setup outcome (left_at setup t word outcome)
leave_moves setup t word outcome =
    of_leave (λ (life : Life). has_others setup outcome ≡ others_moved_into setup outcome life) setup t word outcome
    refl refl
