-- Who is a member or sends moves exactly where the counts do.
use Rattle.std.proofs.Common.{◌≡◌, ◌≤◌, ℕ, zero, suc, ◌+◌, Bool, true, false, true≢false, cond, if◌then◌else◌, not, ◌&&◌, ◌||◌, ◌==◌, List, [], ◌∷◌, drop, Option, Some, None, is_some, option_map, arith, refl, sym, ap, ◌∙◌}
use Rattle.std.proofs.lemmas.Bool.{eqb-true, or_parts}
use Rattle.std.proofs.lemmas.Bool.Decides.{nat_tests}
use Rattle.rtcp_wire.specs.declared.fact.Fact.{Fact}
use Rattle.rtcp_wire.specs.Facts.{subject, is_gone}
use Rattle.rtcp_members.specs.Traces.{TraceStep, fact_came, check_made, block_made_of, source_forgotten, names}
use Rattle.rtcp_members.specs.Stays.{stay_of}
use Rattle.rtcp_members.specs.Entries.{EntryValue, entry_of, entry_at, is_member, is_sender, is_such, count_at, members_at, senders_at, step_moves, moved_within}
use Rattle.rtcp_members.specs.Pending.{reported_entry}
use Rattle.rtcp_members.specs.Roles.{IsSameRole}
use Rattle.rtcp_members.proofs.maps.Counting.{has, IsOnce, passing, same_passing, first_and_rest, one_or_none, one_more, no_more}
use Rattle.rtcp_members.proofs.stays.Naming.{names_are_once, present_is_named, still_named}
use Rattle.rtcp_members.proofs.stays.TraceStepLemmas.{other_entry_at, checked_entry_at}
use Rattle.rtcp_members.proofs.standing.Counts.{members_by_entries, senders_by_entries}
use Rattle.rtcp_members.proofs.standing.Growing.{more_pass, checked_such, checked_sender}
use Rattle.rtcp_members.proofs.standing.Blocking.{reported_if, own_stay, other_stay}
use Rattle.rtcp_members.proofs.standing.Forgetting.{forgotten_entry_at, kept_such}

-- ---- Two tests of keys

no_part : (b : Bool) (n : ℕ) → one_or_none b + n ≡ 0 → (b ≡ false) × (n ≡ 0)
unfolding one_or_none
no_part true n e = absurd (omega arith)
no_part false n e = (refl, omega arith)

-- Where none passes, no key does.
none_in : (f : ℕ → Bool) (keys : List ℕ) → passing f keys ≡ 0 → (key : ℕ) → has key keys ≡ true → f key ≡ false
none_in f [] none key present = absurd (true≢false (sym present))
none_in f (first ∷ rest) none key present =
    let parts = no_part (f first) (passing f rest) (sym (first_and_rest f first rest) ∙ none) in
    elim (first == key) as (λ b. (first == key) ≡ b → (b || has key rest) ≡ true → f key ≡ false) [
      | true ↦ λ same _. ap f (sym (eqb-true first key same)) ∙ parts.0
      | false ↦ λ _ later. none_in f rest parts.1 key later
    ] refl present

not_as_many : (n : ℕ) → n ≡ one_or_none true + n → ⊥
unfolding one_or_none
not_as_many n e = absurd (omega arith)

swapped_test : (key here : ℕ) → (key == here) ≡ false → (here == key) ≡ false
swapped_test key here e = grind (arith, nat_tests, e)

turned : (f g : ℕ → Bool) (here : ℕ) (value : Bool) → ((key : ℕ) → (here == key) ≡ false → g key ≡ f key) →
    g here ≡ value → (key : ℕ) → g key ≡ cond (key == here) value (f key)
turned f g here value others is key =
    elim (key == here) as (λ b. (key == here) ≡ b → g key ≡ cond b value (f key)) [
      | true ↦ λ same. ap g (eqb-true key here same) ∙ is
      | false ↦ λ other. others key (swapped_test key here other)
    ] refl

-- Where one key alone may move, as many pass only if it does not.

one_moved : (f g : ℕ → Bool) (here : ℕ) → ((key : ℕ) → (here == key) ≡ false → g key ≡ f key) → (keys : List ℕ) →
    IsOnce keys → has here keys ≡ true → passing g keys ≡ passing f keys → g here ≡ f here
one_moved f g here others keys once present as_many =
    elim (f here) as (λ b. f here ≡ b → g here ≡ b) [
      | false ↦ λ fails. elim (g here) as (λ b. g here ≡ b → b ≡ false) [
        | false ↦ λ _. refl
        | true ↦ λ passes. absurd (not_as_many (passing f keys)
            (sym as_many ∙ one_more f g here true (turned f g here true others passes) fails keys once present))
      ] refl
      | true ↦ λ passes. elim (g here) as (λ b. g here ≡ b → b ≡ true) [
        | true ↦ λ _. refl
        | false ↦ λ fails. absurd (not_as_many (passing g keys)
            (as_many ∙ one_more g f here true (turned g f here true (λ key other. sym (others key other)) passes)
            fails keys once present))
      ] refl
    ] refl

first_too : (a b : Bool) → (b ≡ true → a ≡ true) → (n m : ℕ) → n ≤ m → one_or_none b + n ≡ one_or_none a + m →
    (b ≡ a) × (n ≡ m)
unfolding one_or_none
first_too true true more n m less e = (refl, omega arith)
first_too true false more n m less e = absurd (omega arith)
first_too false true more n m less e = absurd (true≢false (sym (more refl)))
first_too false false more n m less e = (refl, omega arith)

-- Where none may pass that did not, as many pass only if each does that did.
none_fails : (f g : ℕ → Bool) → ((key : ℕ) → g key ≡ true → f key ≡ true) → (keys : List ℕ) →
    passing g keys ≡ passing f keys → (key : ℕ) → has key keys ≡ true → g key ≡ f key
none_fails f g fewer [] as_many key present = absurd (true≢false (sym present))
none_fails f g fewer (first ∷ rest) as_many key present =
    let less : passing g rest ≤ passing f rest = more_pass g f fewer rest in
    let sums : one_or_none (g first) + passing g rest ≡ one_or_none (f first) + passing f rest =
    sym (first_and_rest g first rest) ∙ as_many ∙ first_and_rest f first rest in
    let both = first_too (f first) (g first) (fewer first) (passing g rest) (passing f rest) less sums in
    elim (first == key) as (λ b. (first == key) ≡ b → (b || has key rest) ≡ true → g key ≡ f key) [
      | true ↦ λ same _. ap g (sym (eqb-true first key same)) ∙ both.0 ∙ ap f (eqb-true first key same)
      | false ↦ λ _ later. none_fails f g fewer rest both.1 key later
    ] refl present

-- one that is not named later was not named before
unnamed_before : (step : TraceStep) (trace : List TraceStep) (ssrc : ℕ) → has ssrc (names (step ∷ trace)) ≡ false →
    has ssrc (names trace) ≡ false
unnamed_before step trace ssrc unnamed =
    elim (has ssrc (names trace)) as (λ b. has ssrc (names trace) ≡ b → b ≡ false) [
      | true ↦ λ named. absurd (true≢false (sym (still_named step trace ssrc named) ∙ unnamed))
      | false ↦ λ _. refl
    ] refl

-- ---- Counts over the names of one step later

module _ (test : EntryValue → Bool) (capacity : ℕ) where
  abbrev passes : List TraceStep → ℕ → Bool
  passes trace ssrc = is_such test (entry_at capacity trace ssrc)

  not_here : (trace : List TraceStep) (ssrc : ℕ) → has ssrc (names trace) ≡ false → passes trace ssrc ≡ false
  not_here trace ssrc unnamed =
      elim (stay_of capacity trace ssrc) as (λ stay. (is_some stay ≡ true → has ssrc (names trace) ≡ true) →
      is_such test (option_map (entry_of ssrc) stay) ≡ false) [
        | None ↦ λ _. refl
        | Some stay ↦ λ named. absurd (true≢false (sym (named refl) ∙ unnamed))
      ] (present_is_named capacity trace ssrc)

  with_one_more : (fact : Fact) (trace : List TraceStep) (known : Bool) →
      (known ≡ false → has (subject fact) (names trace) ≡ false) →
      passing (passes trace) (cond known (names trace) (subject fact ∷ names trace)) ≡ passing (passes trace)
      (names trace)
  with_one_more fact trace true new = refl
  with_one_more fact trace false new =
      first_and_rest (passes trace) (subject fact) (names trace)
      ∙ ap (λ b. one_or_none b + passing (passes trace) (names trace)) (not_here trace (subject fact) (new refl))
      ∙ no_more (passing (passes trace) (names trace))

  by_later_names : (step : TraceStep) (trace : List TraceStep) →
      passing (passes trace) (names (step ∷ trace)) ≡ count_at test capacity trace
  by_later_names (fact_came fact moment) trace = with_one_more fact trace
      (is_gone fact || has (subject fact) (names trace)) (λ new. (or_parts (is_gone fact) _ new).1)
  by_later_names step trace = refl

  -- Where nobody changes, the count stays.
  count_stays : (step : TraceStep) (trace : List TraceStep) →
      ((ssrc : ℕ) → passes trace ssrc ≡ passes (step ∷ trace) ssrc) →
      count_at test capacity (step ∷ trace) ≡ count_at test capacity trace
  count_stays step trace same =
      same_passing (passes (step ∷ trace)) (passes trace) (λ ssrc. sym (same ssrc)) (names (step ∷ trace))
      ∙ by_later_names step trace

  -- Where nobody counts, nobody passes.
  pub nobody_passes : (trace : List TraceStep) → count_at test capacity trace ≡ 0 → (ssrc : ℕ) →
      passes trace ssrc ≡ false
  nobody_passes trace none ssrc =
      elim (has ssrc (names trace)) as (λ b. has ssrc (names trace) ≡ b → passes trace ssrc ≡ false) [
        | true ↦ λ named. none_in (passes trace) (names trace) none ssrc named
        | false ↦ λ unnamed. not_here trace ssrc unnamed
      ] refl

  -- one that none of the two traces names
  neither : (step : TraceStep) (trace : List TraceStep) (ssrc : ℕ) → has ssrc (names (step ∷ trace)) ≡ false →
      has ssrc (names trace) ≡ false → passes trace ssrc ≡ passes (step ∷ trace) ssrc
  neither step trace ssrc later earlier = not_here trace ssrc earlier ∙ sym (not_here (step ∷ trace) ssrc later)

  -- Where the count stays, nobody changes.
  fact_keeps : (fact : Fact) (moment : ℕ) (trace : List TraceStep) →
      count_at test capacity (fact_came fact moment ∷ trace) ≡ count_at test capacity trace → (ssrc : ℕ) →
      passes trace ssrc ≡ passes (fact_came fact moment ∷ trace) ssrc
  fact_keeps fact moment trace count ssrc =
      elim (subject fact == ssrc) as (λ b. (subject fact == ssrc) ≡ b →
      passes trace ssrc ≡ passes (fact_came fact moment ∷ trace) ssrc) [
        | false ↦ λ apart. sym (others ssrc apart)
        | true ↦ λ own. ap (passes trace) (sym (eqb-true (subject fact) ssrc own)) ∙ here
            ∙ ap (passes (fact_came fact moment ∷ trace)) (eqb-true (subject fact) ssrc own)
      ] refl
    where
      others : (key : ℕ) → (subject fact == key) ≡ false → passes (fact_came fact moment ∷ trace) key ≡ passes trace key
      others key apart = ap (is_such test) (other_entry_at capacity key moment fact trace apart)

      here : passes trace (subject fact) ≡ passes (fact_came fact moment ∷ trace) (subject fact)
      here =
          elim (has (subject fact) (names (fact_came fact moment ∷ trace))) as (λ b. has (subject fact)
          (names (fact_came fact moment ∷ trace)) ≡ b →
          passes trace (subject fact) ≡ passes (fact_came fact moment ∷ trace) (subject fact)) [
            | true ↦ λ named. sym (one_moved (passes trace) (passes (fact_came fact moment ∷ trace)) (subject fact)
                others (names (fact_came fact moment ∷ trace)) (names_are_once (fact_came fact moment ∷ trace)) named
                (count ∙ sym (by_later_names (fact_came fact moment) trace)))
            | false ↦ λ unnamed. neither (fact_came fact moment) trace (subject fact) unnamed
                (unnamed_before (fact_came fact moment) trace (subject fact) unnamed)
          ] refl

  -- Nor where a step lets nobody pass who did not before.
  fewer_keep : (step : TraceStep) (trace : List TraceStep) →
      ((ssrc : ℕ) → passes (step ∷ trace) ssrc ≡ true → passes trace ssrc ≡ true) →
      count_at test capacity (step ∷ trace) ≡ count_at test capacity trace → (ssrc : ℕ)
      → passes trace ssrc ≡ passes (step ∷ trace) ssrc
  fewer_keep step trace fewer count ssrc =
      elim (has ssrc (names (step ∷ trace))) as (λ b. has ssrc (names (step ∷ trace)) ≡ b →
      passes trace ssrc ≡ passes (step ∷ trace) ssrc) [
        | true ↦ λ named. sym (none_fails (passes trace) (passes (step ∷ trace)) fewer (names (step ∷ trace))
            (count ∙ sym (by_later_names step trace)) ssrc named)
        | false ↦ λ unnamed. neither step trace ssrc unnamed (unnamed_before step trace ssrc unnamed)
      ] refl

  forgetting_keeps : (forgotten : ℕ) (trace : List TraceStep) →
      count_at test capacity (source_forgotten forgotten ∷ trace) ≡ count_at test capacity trace → (ssrc : ℕ)
      → passes trace ssrc ≡ passes (source_forgotten forgotten ∷ trace) ssrc
  forgetting_keeps forgotten trace =
      fewer_keep (source_forgotten forgotten) trace (λ other is.
      kept_such test (forgotten == other) (entry_at capacity trace other)
      (ap (is_such test) (sym (forgotten_entry_at capacity other forgotten trace)) ∙ is))

-- ---- Blocks

block_keeps_role : (test : EntryValue → Bool) → ((e : EntryValue) → test (reported_entry e) ≡ test e) →
    (capacity reported : ℕ) (trace : List TraceStep) (ssrc : ℕ)
    → is_such test (entry_at capacity trace ssrc) ≡ is_such test
    (entry_at capacity (block_made_of reported ∷ trace) ssrc)
block_keeps_role test stays capacity reported trace ssrc =
    elim (reported == ssrc) as (λ b. (reported == ssrc) ≡ b → is_such test (entry_at capacity trace ssrc)
    ≡ is_such test (entry_at capacity (block_made_of reported ∷ trace) ssrc)) [
      | true ↦ λ own. sym (ap (is_such test)
          (own_stay capacity ssrc reported trace own (stay_of capacity trace ssrc))
          ∙ mapped (entry_at capacity trace ssrc))
      | false ↦ λ apart. sym (ap (is_such test)
          (other_stay capacity ssrc reported trace apart (stay_of capacity trace ssrc)))
    ] refl
  where
    mapped : (entry : Option EntryValue) → is_such test (option_map reported_if entry) ≡ is_such test entry
    mapped None = refl
    mapped (Some e) = elim (is_some e.mark) as (λ b. test (if b then e else reported_entry e) ≡ test e) [
      | true ↦ refl
      | false ↦ stays e
    ]

-- ---- One step

module _ (capacity : ℕ) where
  abbrev entry : List TraceStep → ℕ → Option EntryValue
  entry trace ssrc = entry_at capacity trace ssrc

  -- Where everyone has the same role after a step, it does not move.
  pub same_roles_stay : (step : TraceStep) (trace : List TraceStep) →
      ((ssrc : ℕ) → IsSameRole (entry trace ssrc) (entry (step ∷ trace) ssrc)) →
      step_moves capacity step trace ≡ false
  same_roles_stay step trace same =
      let members : members_at capacity (step ∷ trace) ≡ members_at capacity trace =
      members_by_entries capacity (step ∷ trace) ∙ count_stays is_member capacity step trace (λ ssrc. (same ssrc).0)
      ∙ sym (members_by_entries capacity trace) in
      let senders : senders_at capacity (step ∷ trace) ≡ senders_at capacity trace =
      senders_by_entries capacity (step ∷ trace) ∙ count_stays is_sender capacity step trace (λ ssrc. (same ssrc).1)
      ∙ sym (senders_by_entries capacity trace) in
      (λ i. not ((members i == members_at capacity trace) && (senders i == senders_at capacity trace)))
      ∙ none_moves (members_at capacity trace) (senders_at capacity trace)
    where
      none_moves : (n m : ℕ) → not ((n == n) && (m == m)) ≡ false
      none_moves n m = grind (arith, nat_tests)

  counts_stay : (step : TraceStep) (trace : List TraceStep) → step_moves capacity step trace ≡ false →
      (count_at is_member capacity (step ∷ trace) ≡ count_at is_member capacity trace)
      × (count_at is_sender capacity (step ∷ trace) ≡ count_at is_sender capacity trace)
  counts_stay step trace still =
      let both = both_equal (members_at capacity (step ∷ trace)) (members_at capacity trace)
      (senders_at capacity (step ∷ trace)) (senders_at capacity trace) still in (
        sym (members_by_entries capacity (step ∷ trace)) ∙ both.0 ∙ members_by_entries capacity trace,
        sym (senders_by_entries capacity (step ∷ trace)) ∙ both.1 ∙ senders_by_entries capacity trace,
      )
    where
      both_equal : (a b c d : ℕ) → not ((a == b) && (c == d)) ≡ false → (a ≡ b) × (c ≡ d)
      both_equal a b c d e = (grind (arith, nat_tests, e), grind (arith, nat_tests, e))

  -- Where a step does not move, everyone has the same role after it.
  pub step_keeps : (step : TraceStep) (trace : List TraceStep) → step_moves capacity step trace ≡ false →
      (ssrc : ℕ) → IsSameRole (entry trace ssrc) (entry (step ∷ trace) ssrc)
  step_keeps (fact_came fact moment) trace still ssrc =
      let counts = counts_stay (fact_came fact moment) trace still in (
        fact_keeps is_member capacity fact moment trace counts.0 ssrc,
        fact_keeps is_sender capacity fact moment trace counts.1 ssrc,
      )
  step_keeps (check_made horizons) trace still ssrc =
      let counts = counts_stay (check_made horizons) trace still in (
        fewer_keep is_member capacity (check_made horizons) trace
            (λ other is. checked_such is_member horizons (λ e member. member) (entry trace other)
            (ap (is_such is_member) (sym (checked_entry_at capacity other horizons trace)) ∙ is)) counts.0 ssrc,
        fewer_keep is_sender capacity (check_made horizons) trace
            (λ other is. checked_sender horizons (entry trace other)
            (ap (is_such is_sender) (sym (checked_entry_at capacity other horizons trace)) ∙ is)) counts.1 ssrc,
      )
  step_keeps (block_made_of reported) trace still ssrc = (
    block_keeps_role is_member (λ e. refl) capacity reported trace ssrc,
    block_keeps_role is_sender (λ e. refl) capacity reported trace ssrc,
  )
  step_keeps (source_forgotten forgotten) trace still ssrc =
      let counts = counts_stay (source_forgotten forgotten) trace still in (
        forgetting_keeps is_member capacity forgotten trace counts.0 ssrc,
        forgetting_keeps is_sender capacity forgotten trace counts.1 ssrc,
      )

  -- A block moves nobody.
  pub block_moves_none : (reported : ℕ) (trace : List TraceStep) → step_moves capacity (block_made_of reported) trace
      ≡ false
  block_moves_none reported trace =
      same_roles_stay (block_made_of reported) trace
      (λ ssrc. (
        block_keeps_role is_member (λ e. refl) capacity reported trace ssrc,
        block_keeps_role is_sender (λ e. refl) capacity reported trace ssrc,
      ))

  -- ---- Some steps

  pub steps_keep : (steps : ℕ) (trace : List TraceStep) → moved_within capacity steps trace ≡ false → (ssrc : ℕ) →
      IsSameRole (entry (drop steps trace) ssrc) (entry trace ssrc)
  steps_keep zero trace still ssrc = (refl, refl)
  steps_keep (suc steps) [] still ssrc = (refl, refl)
  steps_keep (suc steps) (step ∷ earlier) still ssrc =
      let parts = or_parts (step_moves capacity step earlier) (moved_within capacity steps earlier) still in
      let before = steps_keep steps earlier parts.1 ssrc in
      let last = step_keeps step earlier parts.0 ssrc in
      (before.0 ∙ last.0, before.1 ∙ last.1)
