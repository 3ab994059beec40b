-- Whom the participant tells of, by all that it tells.
use Rattle.std.proofs.Common.{◌≡◌, ◌<◌, ◌≤◌, ℕ, true, false, List, [], ◌∷◌, nat_eq, nat_lt, Option, Some, None, option_map, refl, subst, ap, ◌∙◌, arith}
use Rattle.std.specs.Option.{option_or}
use Rattle.std.proofs.lemmas.Bool.Decides.{nat_tests}
use Rattle.rtcp_engine.specs.answers.Leaving.{Life, present, backing_off, finished}
use Rattle.rtcp_engine.specs.answers.Lives.{WalksInLife}
use Rattle.rtcp_engine.specs.answers.Setups.{Setup}
use Rattle.rtcp_members.specs.News.{is_after}
use Rattle.rtcp_members.specs.Stays.{stay_of}
use Rattle.rtcp_members.specs.Listings.{IsWalk, StateValue, state_in_stay}
use Rattle.rtcp_members.specs.Traces.{TraceStep}
use Rattle.rtcp_show.specs.Listings.{state_in, state_in_life}

-- ---- Tests of two SSRCs

-- what holds if they are one, and if they are two, holds
pub by_same : {P : Type 0} → (a b : ℕ) → (nat_eq a b ≡ true → a ≡ b → P) → (nat_eq a b ≡ false → P) → P
by_same {P} a b same other = elim (nat_eq a b) as (λ t. nat_eq a b ≡ t → P) [
  | true ↦ λ e. same e (grind (arith, nat_tests))
  | false ↦ λ e. other e
] refl

by_order : {P : Type 0} → (a b : ℕ) → (b < a → P) → (a ≤ b → P) → P
by_order {P} a b less upto = elim (nat_lt b a) as (λ t. nat_lt b a ≡ t → P) [
  | true ↦ λ e. less (grind (arith, nat_tests))
  | false ↦ λ e. upto (grind (arith, nat_tests))
] refl

or_none : {A : Type 0} → (o : Option A) → option_or o None ≡ o
or_none None = refl
or_none (Some x) = refl

-- ---- By all that is told

-- Nothing that is told above an SSRC is of a lower one.
none_below :
    (capacity : ℕ) (trace : List TraceStep) (low ssrc : ℕ) (states : List StateValue)
    → ssrc ≤ low → IsWalk (Some low) capacity trace states → state_in states ssrc ≡ None
none_below capacity trace low ssrc [] below walk = refl
none_below capacity trace low ssrc (state ∷ states) below walk =
    let above : nat_lt low state.ssrc ≡ true = walk.0.above in
    let other : nat_eq state.ssrc ssrc ≡ false = grind (arith, nat_tests) in
    let lower : ssrc ≤ state.ssrc = grind (arith, nat_tests) in
    rw (none_below capacity trace state.ssrc ssrc states lower walk.1, other) refl

walk_has :
    (capacity : ℕ) (trace : List TraceStep) (after : Option ℕ) (ssrc : ℕ) (states : List StateValue)
    → is_after after ssrc ≡ true → IsWalk after capacity trace states
    → state_in states ssrc ≡ option_map (state_in_stay ssrc) (stay_of capacity trace ssrc)
walk_has capacity trace after ssrc [] behind walk = rw (walk ssrc behind) refl
walk_has capacity trace after ssrc (state ∷ states) behind walk =
    let next = walk.0 in
    by_same state.ssrc ssrc (λ test same.
    let low : ssrc ≤ state.ssrc = grind (arith, nat_tests) in
    rw (
      none_below capacity trace state.ssrc ssrc states low walk.1,
      test,
      subst (λ s. stay_of capacity trace s ≡ Some next.stay) same next.present,
    ) (ap Some (next.says ∙ ap (λ s. state_in_stay s next.stay) same)))
    (λ test. by_order state.ssrc ssrc (λ less.
    rw (none_below capacity trace state.ssrc ssrc states (grind arith) walk.1, test, next.least ssrc behind less) refl)
    (λ upto. let behind_it : nat_lt state.ssrc ssrc ≡ true = grind (arith, nat_tests) in
    rw (walk_has capacity trace (Some state.ssrc) ssrc states behind_it walk.1, test) (or_none _)))

pub state_in_walk :
    (setup : Setup) (life : Life) (ssrc : ℕ) (states : List StateValue) → WalksInLife setup life states
    → state_in states ssrc ≡ state_in_life setup life ssrc
state_in_walk setup (present outcome) ssrc states walk =
    walk_has setup.capacity outcome.trace None ssrc states refl walk
state_in_walk setup (backing_off outcome backoff) ssrc states none = rw none refl
state_in_walk setup (finished outcome) ssrc states none = rw none refl
