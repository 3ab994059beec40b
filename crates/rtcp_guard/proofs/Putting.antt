-- How many claims there are once one was put among them, and which.
use Rattle.std.proofs.Common.{◌≡◌, ◌<◌, ◌≤◌, ◌+◌, ◌==◌, ℕ, Bool, true, false, cond, List, [], ◌∷◌, filter, length, Option, Some, None, arith, refl, sym, ap, ◌∙◌}
use Rattle.std.proofs.lemmas.Bool.Decides.{nat_tests}
use Rattle.std.specs.List.{sum_by}
use Rattle.std.proofs.lemmas.List.Sums.{sum_by-cons}
use Rattle.rtcp_guard.specs.Claims.{Claim, claim_leaving, found, goodbyes_for, goodbyes_of, is_by, put, with_goodbye}
use Rattle.rtcp_guard.specs.Tables.{AreRising}
use Rattle.rtcp_guard.proofs.Orders.{before, same, behind, order, put_before, put_same, put_behind, found_first, found_before, found_behind, missing_above}

-- ---- Which

pub found_put : (ssrc : ℕ) (claim : Claim) (claims : List Claim) →
    found ssrc (put claim claims) ≡ cond (claim.ssrc == ssrc) (Some claim) (found ssrc claims)
found_put ssrc claim [] = refl
found_put ssrc claim (first ∷ rest) = elim (order first.ssrc claim.ssrc) [
  | before is ↦ ap (found ssrc) (put_before claim first rest is)
      ∙ ap (λ o. cond (first.ssrc == ssrc) (Some first) o) (found_put ssrc claim rest)
      ∙ elim (first.ssrc == ssrc) as (λ b. first.ssrc == ssrc ≡ b → cond b (Some first)
      (cond (claim.ssrc == ssrc) (Some claim) (found ssrc rest))
      ≡ cond (claim.ssrc == ssrc) (Some claim) (cond b (Some first) (found ssrc rest))) [
        | true ↦ λ e.
            let no : claim.ssrc == ssrc ≡ false = grind (arith, nat_tests, e, is) in
            ap (λ b. cond b (Some claim) (Some first)) (sym no)
        | false ↦ λ e. refl
      ] refl
  | same is ↦ ap (found ssrc) (put_same claim first rest is)
      ∙ ap (λ s. cond (claim.ssrc == ssrc) (Some claim) (found ssrc rest)) is
      ∙ elim (claim.ssrc == ssrc) as (λ b. claim.ssrc == ssrc ≡ b → cond b (Some claim) (found ssrc rest)
      ≡ cond b (Some claim) (cond (first.ssrc == ssrc) (Some first) (found ssrc rest))) [
        | true ↦ λ e. refl
        | false ↦ λ e.
            let no : first.ssrc == ssrc ≡ false = grind (arith, nat_tests, e, is) in
            ap (λ b. cond b (Some first) (found ssrc rest)) (sym no)
      ] refl
  | behind is ↦ ap (found ssrc) (put_behind claim first rest is)
]

-- ---- How many

abbrev pub one_if : Bool → ℕ
one_if b = cond b 1 0

-- how many claims pass a test
abbrev pub tally : (Claim → Bool) → List Claim → ℕ
tally test claims = length (filter test claims)

abbrev pub weight : (Claim → Bool) → Option Claim → ℕ
weight test None = 0
weight test (Some claim) = one_if (test claim)

pub tally_first : (test : Claim → Bool) (first : Claim) (rest : List Claim) →
    tally test (first ∷ rest) ≡ one_if (test first) + tally test rest
tally_first test first rest =
    elim (test first) as (λ b. length (cond b (first ∷ filter test rest) (filter test rest)) ≡ one_if b + tally test
    rest) [
      | true ↦ omega arith
      | false ↦ omega arith
    ]

pub tally_put : (test : Claim → Bool) (claim : Claim) (claims : List Claim) → AreRising claims →
    tally test (put claim claims) + weight test (found claim.ssrc claims) ≡ tally test claims + one_if (test claim)
tally_put test claim [] rising =
    let one : tally test (claim ∷ []) ≡ one_if (test claim) + 0 = tally_first test claim [] in omega (arith, one)
tally_put test claim (first ∷ rest) rising = elim (order first.ssrc claim.ssrc) [
  | before is ↦
      let next = ap (tally test) (put_before claim first rest is) in
      let all = tally_first test first (put claim rest) in
      let old = tally_first test first rest in
      let there = ap (weight test) (found_before claim.ssrc first rest is) in
      let so = tally_put test claim rest rising.1 in
      omega (arith, next, all, old, there, so)
  | same is ↦
      let next = ap (tally test) (put_same claim first rest is) in
      let all = tally_first test claim rest in
      let old = tally_first test first rest in
      let there = ap (weight test) (found_first claim.ssrc first rest is) in
      omega (arith, next, all, old, there)
  | behind is ↦
      let next = ap (tally test) (put_behind claim first rest is) in
      let all = tally_first test claim (first ∷ rest) in
      let none : found claim.ssrc (first ∷ rest) ≡ None = found_behind claim.ssrc first rest is
      ∙ missing_above claim.ssrc first.ssrc rest (omega (arith, is)) rising.0 in
      let there : weight test (found claim.ssrc (first ∷ rest)) ≡ 0 = ap (weight test) none in
      omega (arith, next, all, there)
]

pub weight_few : (test : Claim → Bool) (o : Option Claim) → weight test o ≤ 1
weight_few test None = omega arith
weight_few test (Some claim) = elim (test claim) as (λ b. one_if b ≤ 1) [
  | true ↦ omega arith
  | false ↦ omega arith
]

abbrev pub is_any : Claim → Bool
is_any claim = true

pub tally_all : (claims : List Claim) → tally is_any claims ≡ length claims
tally_all [] = refl
tally_all (first ∷ rest) = let so = tally_all rest in omega (arith, so)

-- Those that pass are not fewer once another one that passes was put.
pub put_grows : (test : Claim → Bool) (claim : Claim) (claims : List Claim) → AreRising claims → test claim ≡ true →
    tally test claims ≤ tally test (put claim claims)
put_grows test claim claims rising passes =
    let so = tally_put test claim claims rising in
    let few = weight_few test (found claim.ssrc claims) in
    let one : one_if (test claim) ≡ 1 = ap one_if passes in
    omega (arith, so, few, one)

-- Those that pass are not more once one that does not was put.
pub put_shrinks : (test : Claim → Bool) (claim : Claim) (claims : List Claim) → AreRising claims →
    test claim ≡ false → tally test (put claim claims) ≤ tally test claims
put_shrinks test claim claims rising fails =
    let so = tally_put test claim claims rising in
    let none : one_if (test claim) ≡ 0 = ap one_if fails in
    omega (arith, so, none)

pub tally_filter : (test p : Claim → Bool) (claims : List Claim) → tally test (filter p claims) ≤ tally test claims
tally_filter test p [] = omega arith
tally_filter test p (first ∷ rest) =
    let so = tally_filter test p rest in
    let all = tally_first test first rest in
    elim (p first) as (λ b. tally test (cond b (first ∷ filter p rest) (filter p rest)) ≤ tally test (first ∷ rest)) [
      | true ↦ let some = tally_first test first (filter p rest) in omega (arith, so, all, some)
      | false ↦ omega (arith, so, all)
    ]

pub length_filter : (p : Claim → Bool) (claims : List Claim) → length (filter p claims) ≤ length claims
length_filter p claims =
    let so = tally_filter is_any p claims in
    let all = tally_all claims in
    let some = tally_all (filter p claims) in
    omega (arith, so, all, some)

-- ---- Sums

-- what a claim counts for, if there is one
abbrev pub worth : (Claim → ℕ) → Option Claim → ℕ
worth f None = 0
worth f (Some claim) = f claim

pub total_put : (f : Claim → ℕ) (claim : Claim) (claims : List Claim) → AreRising claims →
    sum_by f (put claim claims) + worth f (found claim.ssrc claims) ≡ sum_by f claims + f claim
total_put f claim [] rising = let one = sum_by-cons f claim [] in omega (arith, one)
total_put f claim (first ∷ rest) rising = elim (order first.ssrc claim.ssrc) [
  | before is ↦
      let next = ap (sum_by f) (put_before claim first rest is) in
      let all = sum_by-cons f first (put claim rest) in
      let old = sum_by-cons f first rest in
      let there = ap (worth f) (found_before claim.ssrc first rest is) in
      let so = total_put f claim rest rising.1 in
      omega (arith, next, all, old, there, so)
  | same is ↦
      let next = ap (sum_by f) (put_same claim first rest is) in
      let all = sum_by-cons f claim rest in
      let old = sum_by-cons f first rest in
      let there = ap (worth f) (found_first claim.ssrc first rest is) in
      omega (arith, next, all, old, there)
  | behind is ↦
      let next = ap (sum_by f) (put_behind claim first rest is) in
      let all = sum_by-cons f claim (first ∷ rest) in
      let none : found claim.ssrc (first ∷ rest) ≡ None = found_behind claim.ssrc first rest is
      ∙ missing_above claim.ssrc first.ssrc rest (omega (arith, is)) rising.0 in
      let there : worth f (found claim.ssrc (first ∷ rest)) ≡ 0 = ap (worth f) none in
      omega (arith, next, all, there)
]

pub total_filter : (f : Claim → ℕ) (p : Claim → Bool) (claims : List Claim) →
    sum_by f (filter p claims) ≤ sum_by f claims
total_filter f p [] = omega arith
total_filter f p (first ∷ rest) =
    let so = total_filter f p rest in
    let all = sum_by-cons f first rest in
    elim (p first) as (λ b. sum_by f (cond b (first ∷ filter p rest) (filter p rest)) ≤ sum_by f (first ∷ rest)) [
      | true ↦ let some = sum_by-cons f first (filter p rest) in omega (arith, so, all, some)
      | false ↦ omega (arith, so, all)
    ]

-- where what goes counts for nothing
pub total_kept : (f : Claim → ℕ) (p : Claim → Bool) (claims : List Claim) →
    ((claim : Claim) → p claim ≡ false → f claim ≡ 0) → sum_by f claims ≤ sum_by f (filter p claims)
total_kept f p [] none = omega arith
total_kept f p (first ∷ rest) none =
    let so = total_kept f p rest none in
    let all = sum_by-cons f first rest in
    elim (p first) as (λ b. p first ≡ b →
    sum_by f (first ∷ rest) ≤ sum_by f (cond b (first ∷ filter p rest) (filter p rest))) [
      | true ↦ λ e. let some = sum_by-cons f first (filter p rest) in omega (arith, so, all, some)
      | false ↦ λ e. let zero_is = none first e in omega (arith, so, all, zero_is)
    ] refl

-- what a claim that is found counts for is in the sum
worth_few : (f : Claim → ℕ) (ssrc : ℕ) (claims : List Claim) → worth f (found ssrc claims) ≤ sum_by f claims
worth_few f ssrc [] = omega arith
worth_few f ssrc (first ∷ rest) =
    let so = worth_few f ssrc rest in
    let all = sum_by-cons f first rest in
    elim (first.ssrc == ssrc) as (λ b. worth f (cond b (Some first) (found ssrc rest)) ≤ sum_by f (first ∷ rest)) [
      | true ↦ omega (arith, all)
      | false ↦ omega (arith, so, all)
    ]

-- ---- Goodbyes

-- the goodbyes of a claim that passes a test
abbrev pub goodbyes_if : (test : Claim → Bool) → Claim → ℕ
goodbyes_if test claim = cond (test claim) claim.goodbyes 0

module _ (test : Claim → Bool) (ssrc : ℕ)
    (same_test : (claim : Claim) → test (claim_leaving (Some ssrc) claim) ≡ test claim) where
  one_leaves : (first : Claim) → goodbyes_if test (claim_leaving (Some ssrc) first)
      ≡ goodbyes_if test first + cond (first.ssrc == ssrc) (one_if (test first)) 0
  one_leaves first =
      ap (λ b. cond b (cond (first.ssrc == ssrc) (first.goodbyes + 1) first.goodbyes) 0) (same_test first)
      ∙ cases (test first) (first.ssrc == ssrc) first.goodbyes
    where
      cases : (b s : Bool) (n : ℕ) → cond b (cond s (n + 1) n) 0 ≡ cond b n 0 + cond s (one_if b) 0
      cases true true n = omega arith
      cases true false n = omega arith
      cases false true n = omega arith
      cases false false n = omega arith

  -- One goodbye more is counted where the claim of its source passes the test.
  pub total_leaving : (claims : List Claim) → AreRising claims →
      sum_by (goodbyes_if test) (with_goodbye (Some ssrc) claims)
      ≡ sum_by (goodbyes_if test) claims + weight test (found ssrc claims)
  total_leaving [] rising = omega arith
  total_leaving (first ∷ rest) rising =
      let so = total_leaving rest rising.1 in
      let next = sum_by-cons (goodbyes_if test) (claim_leaving (Some ssrc) first) (with_goodbye (Some ssrc) rest) in
      let old = sum_by-cons (goodbyes_if test) first rest in
      let one = one_leaves first in
      elim (order first.ssrc ssrc) [
        | before is ↦
            let no : first.ssrc == ssrc ≡ false = grind (arith, nat_tests, is) in
            let none = ap (λ b. cond b (one_if (test first)) 0) no in
            let there = ap (weight test) (found_before ssrc first rest is) in
            omega (arith, so, next, old, one, none, there)
        | same is ↦
            let yes : first.ssrc == ssrc ≡ true = grind (arith, nat_tests, is) in
            let more = ap (λ b. cond b (one_if (test first)) 0) yes in
            let there = ap (weight test) (found_first ssrc first rest is) in
            let gone = ap (weight test) (missing_above ssrc first.ssrc rest (omega (arith, is)) rising.0) in
            omega (arith, so, next, old, one, more, there, gone)
        | behind is ↦
            let no : first.ssrc == ssrc ≡ false = grind (arith, nat_tests, is) in
            let none = ap (λ b. cond b (one_if (test first)) 0) no in
            let there = ap (weight test) (found_behind ssrc first rest is) in
            omega (arith, so, next, old, one, none, there)
      ]

  pub tally_leaving : (claims : List Claim) → tally test (with_goodbye (Some ssrc) claims) ≡ tally test claims
  tally_leaving [] = refl
  tally_leaving (first ∷ rest) =
      let so = tally_leaving rest in
      let next = tally_first test (claim_leaving (Some ssrc) first) (with_goodbye (Some ssrc) rest) in
      let old = tally_first test first rest in
      let same = ap one_if (same_test first) in
      omega (arith, so, next, old, same)

-- the origin of a claim has its goodbyes, and one more
pub one_leaving : (ssrc : ℕ) (claims : List Claim) (claim : Claim) → AreRising claims → found ssrc claims ≡ Some claim →
    claim.goodbyes < goodbyes_of claim.origin (with_goodbye (Some ssrc) claims)
one_leaving ssrc claims claim rising there =
    let itself : claim.origin == claim.origin ≡ true = grind (arith, nat_tests) in
    let so = total_leaving (is_by claim.origin) ssrc (λ other. refl) claims rising in
    let one : weight (is_by claim.origin) (found ssrc claims) ≡ 1 =
    ap (weight (is_by claim.origin)) there ∙ ap one_if itself in
    let its : worth (goodbyes_for claim.origin) (found ssrc claims) ≡ claim.goodbyes =
    ap (worth (goodbyes_for claim.origin)) there ∙ ap (λ b. cond b claim.goodbyes 0) itself in
    let few = worth_few (goodbyes_for claim.origin) ssrc claims in
    omega (arith, so, one, its, few)
