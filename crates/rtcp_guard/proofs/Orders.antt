-- Claims by rising SSRC.
use Rattle.std.proofs.Common.{◌≡◌, ◌<◌, ◌≤◌, ◌+◌, ◌==◌, ℕ, zero, suc, nat_lt, Bool, true, false, cond, List, [], ◌∷◌, filter, length, set, slice_index_or, Some, None, option_map, arith, refl, sym, ap, subst, ◌∙◌, inl, inr}
use Rattle.std.specs.List.{insert}
use Rattle.std.proofs.lemmas.Bool.{cases_lt, eqb-true}
use Rattle.std.proofs.lemmas.List.Edits.{length-insert}
use Rattle.std.proofs.lemmas.Bool.Decides.{nat_tests}
use Rattle.rtcp_guard.specs.Claims.{Claim, claim_leaving, found, put, with_goodbye}
use Rattle.rtcp_guard.specs.Tables.{AreAbove, AreRising, IsGap}

-- ---- One number before another

pub data Order (a b : ℕ) : Type 0 where
  before : a < b → Order a b
  same : a ≡ b → Order a b
  behind : b < a → Order a b

pub order : (a b : ℕ) → Order a b
order a b = elim (cases_lt a b) [
  | inl less ↦ before less
  | inr from ↦ elim (cases_lt b a) [
    | inl more ↦ behind more
    | inr until ↦ same (omega (arith, from, until))
  ]
]

-- ---- The first claim

module _ (claim first : Claim) (rest : List Claim) where
  pub put_before : first.ssrc < claim.ssrc → put claim (first ∷ rest) ≡ first ∷ put claim rest
  put_before less =
      let is : nat_lt first.ssrc claim.ssrc ≡ true = grind (arith, nat_tests, less) in
      ap (λ b. cond b (first ∷ put claim rest) (cond (first.ssrc == claim.ssrc) (claim ∷ rest) (claim ∷ first ∷ rest)))
      is

  pub put_same : first.ssrc ≡ claim.ssrc → put claim (first ∷ rest) ≡ claim ∷ rest
  put_same e =
      let no : nat_lt first.ssrc claim.ssrc ≡ false = grind (arith, nat_tests, e) in
      let is : first.ssrc == claim.ssrc ≡ true = grind (arith, nat_tests, e) in
      (λ i. cond (no i) (first ∷ put claim rest) (cond (is i) (claim ∷ rest) (claim ∷ first ∷ rest)))

  pub put_behind : claim.ssrc < first.ssrc → put claim (first ∷ rest) ≡ claim ∷ first ∷ rest
  put_behind less =
      let no : nat_lt first.ssrc claim.ssrc ≡ false = grind (arith, nat_tests, less) in
      let other : first.ssrc == claim.ssrc ≡ false = grind (arith, nat_tests, less) in
      (λ i. cond (no i) (first ∷ put claim rest) (cond (other i) (claim ∷ rest) (claim ∷ first ∷ rest)))

module _ (ssrc : ℕ) (first : Claim) (rest : List Claim) where
  pub found_first : first.ssrc ≡ ssrc → found ssrc (first ∷ rest) ≡ Some first
  found_first e =
      let is : first.ssrc == ssrc ≡ true = grind (arith, nat_tests, e) in
      ap (λ b. cond b (Some first) (found ssrc rest)) is

  pub found_before : first.ssrc < ssrc → found ssrc (first ∷ rest) ≡ found ssrc rest
  found_before less =
      let no : first.ssrc == ssrc ≡ false = grind (arith, nat_tests, less) in
      ap (λ b. cond b (Some first) (found ssrc rest)) no

  pub found_behind : ssrc < first.ssrc → found ssrc (first ∷ rest) ≡ found ssrc rest
  found_behind more =
      let no : first.ssrc == ssrc ≡ false = grind (arith, nat_tests, more) in
      ap (λ b. cond b (Some first) (found ssrc rest)) no

-- ---- All above

pub above_weaker : (low high : ℕ) (claims : List Claim) → low ≤ high → AreAbove high claims → AreAbove low claims
above_weaker low high [] order above = tt
above_weaker low high (first ∷ rest) order above =
    (let its = above.0 in omega (arith, its, order), above_weaker low high rest order above.1)

pub above_put : (ssrc : ℕ) (claim : Claim) (claims : List Claim) → AreAbove ssrc claims → ssrc < claim.ssrc →
    AreAbove ssrc (put claim claims)
above_put ssrc claim [] above less = (less, tt)
above_put ssrc claim (first ∷ rest) above less = elim (order first.ssrc claim.ssrc) [
  | before is ↦ subst (AreAbove ssrc) (sym (put_before claim first rest is))
      (above.0, above_put ssrc claim rest above.1 less)
  | same is ↦ subst (AreAbove ssrc) (sym (put_same claim first rest is)) (less, above.1)
  | behind is ↦ subst (AreAbove ssrc) (sym (put_behind claim first rest is)) (less, above)
]

pub above_filter : (test : Claim → Bool) (ssrc : ℕ) (claims : List Claim) → AreAbove ssrc claims →
    AreAbove ssrc (filter test claims)
above_filter test ssrc [] above = tt
above_filter test ssrc (first ∷ rest) above =
    elim (test first) as (λ b. AreAbove ssrc (cond b (first ∷ filter test rest) (filter test rest))) [
      | true ↦ (above.0, above_filter test ssrc rest above.1)
      | false ↦ above_filter test ssrc rest above.1
    ]

-- none of them is the source's
pub missing_above : (ssrc low : ℕ) (claims : List Claim) → ssrc ≤ low → AreAbove low claims → found ssrc claims ≡ None
missing_above ssrc low [] order above = refl
missing_above ssrc low (first ∷ rest) order above =
    found_behind ssrc first rest (let its = above.0 in omega (arith, its, order))
    ∙ missing_above ssrc low rest order above.1

-- ---- Rising

pub rising_put : (claim : Claim) (claims : List Claim) → AreRising claims → AreRising (put claim claims)
rising_put claim [] rising = (tt, tt)
rising_put claim (first ∷ rest) rising = elim (order first.ssrc claim.ssrc) [
  | before is ↦ subst AreRising (sym (put_before claim first rest is))
      (above_put first.ssrc claim rest rising.0 is, rising_put claim rest rising.1)
  | same is ↦ subst AreRising (sym (put_same claim first rest is))
      (subst (λ s. AreAbove s rest) is rising.0, rising.1)
  | behind is ↦ subst AreRising (sym (put_behind claim first rest is))
      ((is, above_weaker claim.ssrc first.ssrc rest (omega (arith, is)) rising.0), rising)
]

pub rising_filter : (test : Claim → Bool) (claims : List Claim) → AreRising claims → AreRising (filter test claims)
rising_filter test [] rising = tt
rising_filter test (first ∷ rest) rising =
    elim (test first) as (λ b. AreRising (cond b (first ∷ filter test rest) (filter test rest))) [
      | true ↦ (above_filter test first.ssrc rest rising.0, rising_filter test rest rising.1)
      | false ↦ rising_filter test rest rising.1
    ]

-- ---- By rank

above_at : (ssrc : ℕ) (claims : List Claim) (k : ℕ) (d : Claim) → AreAbove ssrc claims → k < length claims →
    ssrc < (slice_index_or claims k d).ssrc
above_at ssrc [] k d above within = absurd (omega arith)
above_at ssrc (first ∷ rest) zero d above within = above.0
above_at ssrc (first ∷ rest) (suc k) d above within = above_at ssrc rest k d above.1 (omega arith)

-- the SSRCs do not fall
pub rising_at : (claims : List Claim) (i j : ℕ) (d : Claim) → AreRising claims → i ≤ j → j < length claims →
    (slice_index_or claims i d).ssrc ≤ (slice_index_or claims j d).ssrc
rising_at [] i j d rising order within = absurd (omega arith)
rising_at (first ∷ rest) zero zero d rising order within = omega arith
rising_at (first ∷ rest) zero (suc j) d rising order within =
    let less = above_at first.ssrc rest j d rising.0 (omega arith) in omega (arith, less)
rising_at (first ∷ rest) (suc i) zero d rising order within = absurd (omega arith)
rising_at (first ∷ rest) (suc i) (suc j) d rising order within =
    rising_at rest i j d rising.1 (omega arith) (omega arith)

pub rank_found : (ssrc : ℕ) (claims : List Claim) (rank : ℕ) (d : Claim) → AreRising claims → rank < length claims →
    (slice_index_or claims rank d).ssrc ≡ ssrc → found ssrc claims ≡ Some (slice_index_or claims rank d)
rank_found ssrc [] rank d rising within is = absurd (omega arith)
rank_found ssrc (first ∷ rest) zero d rising within is = found_first ssrc first rest is
rank_found ssrc (first ∷ rest) (suc rank) d rising within is =
    let less = above_at first.ssrc rest rank d rising.0 (omega arith) in
    found_before ssrc first rest (omega (arith, less, is))
    ∙ rank_found ssrc rest rank d rising.1 (omega arith) is

pub rank_put : (claim : Claim) (claims : List Claim) (rank : ℕ) (d : Claim) → AreRising claims →
    rank < length claims → (slice_index_or claims rank d).ssrc ≡ claim.ssrc → put claim claims ≡ set claims rank claim
rank_put claim [] rank d rising within is = absurd (omega arith)
rank_put claim (first ∷ rest) zero d rising within is = put_same claim first rest is
rank_put claim (first ∷ rest) (suc rank) d rising within is =
    let less = above_at first.ssrc rest rank d rising.0 (omega arith) in
    put_before claim first rest (omega (arith, less, is))
    ∙ ap (λ claims. first ∷ claims) (rank_put claim rest rank d rising.1 (omega arith) is)

-- ---- By gap

pub gap_within : (ssrc : ℕ) (claims : List Claim) (gap : ℕ) → IsGap ssrc claims gap → gap ≤ length claims
gap_within ssrc [] zero is = omega arith
gap_within ssrc [] (suc gap) is = absurd is
gap_within ssrc (first ∷ rest) zero is = omega arith
gap_within ssrc (first ∷ rest) (suc gap) is = let less = gap_within ssrc rest gap is.1 in omega (arith, less)

pub gap_found : (ssrc : ℕ) (claims : List Claim) (gap : ℕ) → AreRising claims → IsGap ssrc claims gap →
    found ssrc claims ≡ None
gap_found ssrc [] gap rising is = refl
gap_found ssrc (first ∷ rest) zero rising is =
    found_behind ssrc first rest is ∙ missing_above ssrc first.ssrc rest (omega (arith, is)) rising.0
gap_found ssrc (first ∷ rest) (suc gap) rising is =
    found_before ssrc first rest is.0 ∙ gap_found ssrc rest gap rising.1 is.1

pub gap_put : (claim : Claim) (claims : List Claim) (gap : ℕ) → IsGap claim.ssrc claims gap →
    put claim claims ≡ insert claims gap claim
gap_put claim [] zero is = refl
gap_put claim [] (suc gap) is = absurd is
gap_put claim (first ∷ rest) zero is = put_behind claim first rest is
gap_put claim (first ∷ rest) (suc gap) is =
    put_before claim first rest is.0 ∙ ap (λ claims. first ∷ claims) (gap_put claim rest gap is.1)

-- Where all before a rank are lesser, and the one at it is greater, there is a gap.
pub gap_at : (ssrc : ℕ) (claims : List Claim) (gap : ℕ) → gap ≤ length claims →
    ((k : ℕ) (d : Claim) → k < gap → (slice_index_or claims k d).ssrc < ssrc) →
    ((d : Claim) → gap < length claims → ssrc < (slice_index_or claims gap d).ssrc) → IsGap ssrc claims gap
gap_at ssrc [] zero within lesser greater = tt
gap_at ssrc [] (suc gap) within lesser greater = absurd (omega arith)
gap_at ssrc (first ∷ rest) zero within lesser greater = greater first (omega arith)
gap_at ssrc (first ∷ rest) (suc gap) within lesser greater = (
  lesser 0 first (omega arith),
  gap_at ssrc rest gap (omega arith) (λ k d early. lesser (suc k) d (omega arith)) (λ d early. greater d (omega arith)),
)

-- A claim that is put into a gap is one more.
pub gap_longer : (claim : Claim) (claims : List Claim) (gap : ℕ) → IsGap claim.ssrc claims gap →
    length (put claim claims) ≡ length claims + 1
gap_longer claim claims gap is =
    ap length (gap_put claim claims gap is) ∙ length-insert claims gap claim (gap_within claim.ssrc claims gap is)

-- ---- Goodbyes

-- A BYE of another source leaves a claim as it is.
pub other_leaves : (ssrc : ℕ) (claim : Claim) → claim.ssrc == ssrc ≡ false → claim_leaving (Some ssrc) claim ≡ claim
other_leaves ssrc claim other =
    ap (λ b. record claim { goodbyes = cond b (claim.goodbyes + 1) claim.goodbyes }) other

others_leave : (ssrc low : ℕ) (claims : List Claim) → ssrc ≤ low → AreAbove low claims →
    with_goodbye (Some ssrc) claims ≡ claims
others_leave ssrc low [] order above = refl
others_leave ssrc low (first ∷ rest) order above =
    let less = above.0 in
    let other : first.ssrc == ssrc ≡ false = grind (arith, nat_tests, less, order) in
    (λ i. other_leaves ssrc first other i ∷ others_leave ssrc low rest order above.1 i)

pub rank_leaves : (ssrc : ℕ) (claims : List Claim) (rank : ℕ) (d : Claim) → AreRising claims → rank < length claims →
    (slice_index_or claims rank d).ssrc ≡ ssrc →
    set claims rank (claim_leaving (Some ssrc) (slice_index_or claims rank d)) ≡ with_goodbye (Some ssrc) claims
rank_leaves ssrc [] rank d rising within is = absurd (omega arith)
rank_leaves ssrc (first ∷ rest) zero d rising within is =
    ap (λ claims. claim_leaving (Some ssrc) first ∷ claims)
    (sym (others_leave ssrc first.ssrc rest (omega (arith, is)) rising.0))
rank_leaves ssrc (first ∷ rest) (suc rank) d rising within is =
    let less = above_at first.ssrc rest rank d rising.0 (omega arith) in
    let other : first.ssrc == ssrc ≡ false = grind (arith, nat_tests, less, is) in
    (λ i. sym (other_leaves ssrc first other) i ∷ rank_leaves ssrc rest rank d rising.1 (omega arith) is i)

pub gap_leaves : (ssrc : ℕ) (claims : List Claim) (gap : ℕ) → AreRising claims → IsGap ssrc claims gap →
    with_goodbye (Some ssrc) claims ≡ claims
gap_leaves ssrc [] gap rising is = refl
gap_leaves ssrc (first ∷ rest) zero rising is =
    let other : first.ssrc == ssrc ≡ false = grind (arith, nat_tests, is) in
    (λ i. other_leaves ssrc first other i ∷ others_leave ssrc first.ssrc rest (omega (arith, is)) rising.0 i)
gap_leaves ssrc (first ∷ rest) (suc gap) rising is =
    let less = is.0 in
    let other : first.ssrc == ssrc ≡ false = grind (arith, nat_tests, less) in
    (λ i. other_leaves ssrc first other i ∷ gap_leaves ssrc rest gap rising.1 is.1 i)

pub above_leaving : (low ssrc : ℕ) (claims : List Claim) → AreAbove low claims →
    AreAbove low (with_goodbye (Some ssrc) claims)
above_leaving low ssrc [] above = tt
above_leaving low ssrc (first ∷ rest) above = (above.0, above_leaving low ssrc rest above.1)

pub rising_leaving : (ssrc : ℕ) (claims : List Claim) → AreRising claims →
    AreRising (with_goodbye (Some ssrc) claims)
rising_leaving ssrc [] rising = tt
rising_leaving ssrc (first ∷ rest) rising =
    (above_leaving first.ssrc ssrc rest rising.0, rising_leaving ssrc rest rising.1)

pub found_leaving : (ssrc other : ℕ) (claims : List Claim) →
    found other (with_goodbye (Some ssrc) claims) ≡ option_map (claim_leaving (Some ssrc)) (found other claims)
found_leaving ssrc other [] = refl
found_leaving ssrc other (first ∷ rest) =
    elim (first.ssrc == other) as (λ b. cond b (Some (claim_leaving (Some ssrc) first))
    (found other (with_goodbye (Some ssrc) rest))
    ≡ option_map (claim_leaving (Some ssrc)) (cond b (Some first) (found other rest))) [
      | true ↦ refl
      | false ↦ found_leaving ssrc other rest
    ]

pub found_ssrc : (ssrc : ℕ) (claims : List Claim) (claim : Claim) → found ssrc claims ≡ Some claim → claim.ssrc ≡ ssrc
found_ssrc ssrc [] claim is = absurd cc
found_ssrc ssrc (first ∷ rest) claim is =
    elim (first.ssrc == ssrc) as (λ b. first.ssrc == ssrc ≡ b → cond b (Some first) (found ssrc rest) ≡ Some claim →
    claim.ssrc ≡ ssrc) [
      | true ↦ λ e is.
          let same : first ≡ claim = cc in
          ap (λ (c : Claim). c.ssrc) (sym same) ∙ eqb-true first.ssrc ssrc e
      | false ↦ λ e is. found_ssrc ssrc rest claim is
    ] refl is
