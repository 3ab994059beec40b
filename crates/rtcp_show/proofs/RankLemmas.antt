-- At most so many sources are shown: all of them but the least bad one are worse than that one.
use Rattle.std.proofs.Common.{◌≡◌, ◌⊎◌, ◌+◌, ◌<◌, ◌≤◌, ◌∙◌, ℕ, suc, Bool, true, false, cond, List, [], ◌∷◌, map, nat_lt, None, Some, inl, inr, refl, ap, arith}
use Rattle.std.specs.List.{count_by}
use Rattle.std.proofs.lemmas.Bool.Decides.{nat_tests}
use Rattle.std.proofs.lemmas.List.Sums.{sum_by-cons}
use Rattle.rtcp_engine.specs.answers.Leaving.{Life, present, backing_off, finished}
use Rattle.rtcp_engine.specs.answers.Lives.{WalksInLife}
use Rattle.rtcp_engine.specs.answers.Setups.{Setup}
use Rattle.rtcp_members.specs.Listings.{IsWalk, StateValue}
use Rattle.rtcp_members.specs.Traces.{TraceStep}
use Rattle.rtcp_show.specs.ShortRows.{is_shown, is_worse, rank_of, shown_count, worse_than}
use Rattle.rtcp_show.specs.declared.short_rows.Rank.{Rank}

-- ---- One more is counted

one_more :
    (p : Rank → Bool) (x : Rank) (xs : List Rank) → p x ≡ true → count_by p (x ∷ xs) ≡ 1 + count_by p xs
one_more p x xs holds = sum_by-cons (λ x. cond (p x) 1 0) x xs ∙ ap (λ t. cond t 1 0 + count_by p xs) holds

no_more : (p : Rank → Bool) (x : Rank) (xs : List Rank) → p x ≡ false → count_by p (x ∷ xs) ≡ count_by p xs
no_more p x xs fails =
    let step : count_by p (x ∷ xs) ≡ 0 + count_by p xs =
    sum_by-cons (λ x. cond (p x) 1 0) x xs ∙ ap (λ t. cond t 1 0 + count_by p xs) fails in
    omega (arith, step)

no_fewer : (p : Rank → Bool) (x : Rank) (xs : List Rank) → count_by p xs ≤ count_by p (x ∷ xs)
no_fewer p x xs = elim (p x) as (λ t. p x ≡ t → count_by p xs ≤ count_by p (x ∷ xs)) [
  | true ↦ λ holds. omega (arith, one_more p x xs holds)
  | false ↦ λ fails. omega (arith, no_more p x xs fails)
] refl

-- ---- The order

worse_trans : (a b c : Rank) → is_worse a b ≡ true → is_worse b c ≡ true → is_worse a c ≡ true
worse_trans a b c first second = grind (arith, nat_tests)

either_way : (a b : Rank) → a.ssrc < b.ssrc → (is_worse a b ≡ true) ⊎ (is_worse b a ≡ true)
either_way a b less =
    elim (nat_lt a.fraction b.fraction) as (λ t. nat_lt a.fraction b.fraction ≡ t →
    (is_worse a b ≡ true) ⊎ (is_worse b a ≡ true)) [
      | true ↦ λ test. inr (grind (arith, nat_tests))
      | false ↦ λ test. inl (grind (arith, nat_tests))
    ] refl

-- ---- The least bad one

abbrev Rises : (low : ℕ) → List Rank → Type 0
Rises low [] = Unit {0}
Rises low (x ∷ xs) = (low ≤ x.ssrc) × Rises (suc x.ssrc) xs

-- the ranks that are worse than one
abbrev worse : Rank → Rank → Bool
worse one other = is_worse other one

-- Of those that pass, all but one are worse than that one, and all are worse than whatever that one is worse than.
record LeastBad (p : Rank → Bool) (low : ℕ) (xs : List Rank) : Type 0 where
  one : Rank
  passes : p one ≡ true
  above : low ≤ one.ssrc
  others : count_by p xs ≤ 1 + count_by (worse one) xs
  all : (next : Rank) → is_worse one next ≡ true → count_by p xs ≤ count_by (worse next) xs

after_none :
    (p : Rank → Bool) (low : ℕ) (x : Rank) (xs : List Rank) → low ≤ x.ssrc → p x ≡ false
    → (count_by p xs ≡ 0) ⊎ LeastBad p (suc x.ssrc) xs → (count_by p (x ∷ xs) ≡ 0) ⊎ LeastBad p low (x ∷ xs)
after_none p low x xs least fails (inl none) = inl (no_more p x xs fails ∙ none)
after_none p low x xs least fails (inr bad) =
    let same : count_by p (x ∷ xs) ≡ count_by p xs = no_more p x xs fails in
    let above : suc x.ssrc ≤ bad.one.ssrc = bad.above in
    let others : count_by p xs ≤ 1 + count_by (worse bad.one) xs = bad.others in
    inr (record {
      one = bad.one;
      passes = bad.passes;
      above = omega arith;
      others = omega (arith, no_fewer (worse bad.one) x xs);
      all = λ next beyond. omega (arith, no_fewer (worse next) x xs, bad.all next beyond);
    })

after_one :
    (p : Rank → Bool) (low : ℕ) (x : Rank) (xs : List Rank) → low ≤ x.ssrc → p x ≡ true
    → (count_by p xs ≡ 0) ⊎ LeastBad p (suc x.ssrc) xs → LeastBad p low (x ∷ xs)
after_one p low x xs least holds (inl none) =
    let more : count_by p (x ∷ xs) ≡ 1 + count_by p xs = one_more p x xs holds in
    record {
      one = x;
      passes = holds;
      above = least;
      others = omega arith;
      all = λ next beyond. omega (arith, one_more (worse next) x xs beyond);
    }
after_one p low x xs least holds (inr bad) =
    let more : count_by p (x ∷ xs) ≡ 1 + count_by p xs = one_more p x xs holds in
    let above : suc x.ssrc ≤ bad.one.ssrc = bad.above in
    let others : count_by p xs ≤ 1 + count_by (worse bad.one) xs = bad.others in
    elim (either_way x bad.one (omega arith)) as (λ _. LeastBad p low (x ∷ xs)) [
      | inl is ↦ record {
        one = bad.one;
        passes = bad.passes;
        above = omega arith;
        others = omega (arith, one_more (worse bad.one) x xs is);
        all = λ next beyond. omega (
          arith,
          bad.all next beyond,
          one_more (worse next) x xs (worse_trans x bad.one next is beyond),
        );
      }
      | inr is ↦ record {
        one = x;
        passes = holds;
        above = least;
        others = omega (arith, no_fewer (worse x) x xs, bad.all x is);
        all = λ next beyond. omega (
          arith,
          one_more (worse next) x xs beyond,
          bad.all next (worse_trans bad.one x next is beyond),
        );
      }
    ]

least_bad : (p : Rank → Bool) (low : ℕ) (xs : List Rank) → Rises low xs → (count_by p xs ≡ 0) ⊎ LeastBad p low xs
least_bad p low [] rises = inl refl
least_bad p low (x ∷ xs) rises =
    let rest = least_bad p (suc x.ssrc) xs rises.1 in
    elim (p x) as (λ t. p x ≡ t → (count_by p (x ∷ xs) ≡ 0) ⊎ LeastBad p low (x ∷ xs)) [
      | true ↦ λ holds. inr (after_one p low x xs rises.0 holds rest)
      | false ↦ λ fails. after_none p low x xs rises.0 fails rest
    ] refl

few_shown : (most : ℕ) (ranks : List Rank) → Rises 0 ranks → shown_count most ranks ≤ most
few_shown most ranks rises =
    elim (least_bad (is_shown most ranks) 0 ranks rises) as (λ _. shown_count most ranks ≤ most) [
      | inl none ↦ omega (arith, none)
      | inr bad ↦
          let passes : nat_lt (worse_than bad.one ranks) most ≡ true = bad.passes in
          let few : worse_than bad.one ranks < most = grind (arith, nat_tests) in
          let others : shown_count most ranks ≤ 1 + worse_than bad.one ranks = bad.others in
          omega arith
    ]

-- ---- Of a session

walk_rises :
    (low capacity : ℕ) (trace : List TraceStep) (states : List StateValue) → IsWalk (Some low) capacity trace states
    → Rises (suc low) (map rank_of states)
walk_rises low capacity trace [] walk = tt
walk_rises low capacity trace (state ∷ states) walk =
    let above : nat_lt low state.ssrc ≡ true = walk.0.above in (
      grind (arith, nat_tests),
      walk_rises state.ssrc capacity trace states walk.1,
    )

all_rise :
    (capacity : ℕ) (trace : List TraceStep) (states : List StateValue) → IsWalk None capacity trace states
    → Rises 0 (map rank_of states)
all_rise capacity trace [] walk = tt
all_rise capacity trace (state ∷ states) walk = (omega arith, walk_rises state.ssrc capacity trace states walk.1)

life_rises :
    (setup : Setup) (life : Life) (states : List StateValue) → WalksInLife setup life states
    → Rises 0 (map rank_of states)
life_rises setup (present outcome) states walk = all_rise setup.capacity outcome.trace states walk
life_rises setup (backing_off outcome backoff) states none = rw none tt
life_rises setup (finished outcome) states none = rw none tt

pub few_are_shown :
    (setup : Setup) (life : Life) (states : List StateValue) (most : ℕ) → WalksInLife setup life states
    → shown_count most (map rank_of states) ≤ most
few_are_shown setup life states most walk = few_shown most (map rank_of states) (life_rises setup life states walk)
