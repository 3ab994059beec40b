-- How many spans of time may lie in a window, where each has room for those that end in it: the last leaves those that
-- end before it began, and has room for the others.
use Rattle.std.proofs.Common.{◌≡◌, ℕ, zero, suc, ◌+◌, ◌-◌, ◌*◌, ◌<◌, ◌≤◌, ◌⊎◌, ◌&&◌, inl, inr, nat_le, nat_lt, Bool, true, false, List, [], ◌∷◌, length, get_or, filter, All, refl, sym, ap, arith, subst}
use Rattle.std.proofs.Math.Nat.{mul-le-mul_left}
use Rattle.std.proofs.lemmas.Bool.{cases_lt, and_parts, and_from, both_ways, leb-true, lt-ltb, le-leb, cases_Bool}
use Rattle.std.proofs.lemmas.List.Elements.{All-nil, All-cons, All-head, All-tail, All-weaker}
use Rattle.rtcp_session.proofs.Pacing.{more_if, filter_cons}

-- ---- Lists

-- Some element passes a test, or none does.
some_or_none : {A : Type 0} (test : A → Bool) (P : A → Type 0) (all : List A) → All P all →
    All (λ x. test x ≡ false) all ⊎ ((x : A) × (test x ≡ true) × P x)
some_or_none {A} test P [] h = inl (All-nil (λ (x : A). test x ≡ false))
some_or_none {A} test P (x ∷ others) h =
    elim (cases_Bool (test x)) [
      | inl passes ↦ inr (x, passes, All-head P x others h)
      | inr fails ↦ elim (some_or_none test P others (All-tail P x others h)) [
        | inl none ↦ inl (All-cons (λ (x : A). test x ≡ false) x others fails none)
        | inr some ↦ inr some
      ]
    ]

-- What passes one test passes one of two others.
either_of : {A : Type 0} (p q r : A → Bool) (all : List A) →
    All (λ x. p x ≡ true → (q x ≡ true) ⊎ (r x ≡ true)) all →
    length (filter p all) ≤ length (filter q all) + length (filter r all)
either_of {A} p q r [] h = omega arith
either_of {A} p q r (x ∷ others) h =
    let Goes : A → Type 0 = λ (x : A). p x ≡ true → (q x ≡ true) ⊎ (r x ≡ true) in
    let rest = either_of p q r others (All-tail Goes x others h) in
    let one = by (p x) (q x) (r x) (All-head Goes x others h) (length (filter p others))
    (length (filter q others)) (length (filter r others)) rest in
    let ps = filter_cons p x others in
    let qs = filter_cons q x others in
    let rs = filter_cons r x others in
    omega (arith, one, ps, qs, rs)
  where
    by : (one other third : Bool) → (one ≡ true → (other ≡ true) ⊎ (third ≡ true)) → (a b c : ℕ) → a ≤ b + c →
        more_if one a ≤ more_if other b + more_if third c
    by true true true goes a b c h = omega (arith, h)
    by true true false goes a b c h = omega (arith, h)
    by true false true goes a b c h = omega (arith, h)
    by true false false goes a b c h = elim (goes refl) [
      | inl one ↦ absurd (both_ways false refl one)
      | inr one ↦ absurd (both_ways false refl one)
    ]
    by false true true goes a b c h = omega (arith, h)
    by false true false goes a b c h = omega (arith, h)
    by false false true goes a b c h = omega (arith, h)
    by false false false goes a b c h = h

none_pass : {A : Type 0} (p : A → Bool) (all : List A) → All (λ x. p x ≡ true → ⊥) all →
    length (filter p all) ≡ 0
none_pass {A} p [] h = refl
none_pass {A} p (x ∷ others) h =
    let No : A → Type 0 = λ (x : A). p x ≡ true → ⊥ in
    let rest = none_pass p others (All-tail No x others h) in
    let ps = filter_cons p x others in
    let one = by (p x) (All-head No x others h) (length (filter p others)) rest in
    omega (arith, ps, one)
  where
    by : (one : Bool) → (one ≡ true → ⊥) → (n : ℕ) → n ≡ 0 → more_if one n ≡ 0
    by true never n h = absurd (never refl)
    by false never n h = h

pub all_pass : {A : Type 0} (p : A → Bool) (all : List A) → All (λ x. p x ≡ true) all →
    length (filter p all) ≡ length all
all_pass {A} p [] h = refl
all_pass {A} p (x ∷ others) h =
    let Passes : A → Type 0 = λ (x : A). p x ≡ true in
    let rest = all_pass p others (All-tail Passes x others h) in
    let ps = filter_cons p x others in
    let one = ap (λ (b : Bool). more_if b (length (filter p others))) (All-head Passes x others h) in
    omega (arith, ps, one, rest)

-- ---- Spans

module _ (A : Type 0) (since until : A → ℕ) (from c room : ℕ) (all : List A) where
  -- One ends in another, or is it.
  abbrev ends_in : A → A → Bool
  ends_in x other = nat_lt (since x) (until other) && nat_le (until other) (until x)

  -- It has room for all that end in it.
  pub record HasRoom (x : A) : Type 0 where
    pub order : since x < until x
    pub fits : c * length (filter (ends_in x) all) ≤ room * (until x - since x)

  -- It begins in the window, and ends no later than a moment.
  abbrev by_moment : (moment : ℕ) → A → Bool
  by_moment moment x = nat_le from (since x) && nat_le (until x) moment

  abbrev count : (moment : ℕ) → ℕ
  count moment = length (filter (by_moment moment) all)

  -- the last of them
  abbrev ends_at : (moment : ℕ) → A → Bool
  ends_at moment x = nat_le from (since x) && (nat_le (until x) moment && nat_le moment (until x))

  abbrev Fits : (moment : ℕ) → Type 0
  Fits moment = c * count moment ≤ room * (moment - from)

  -- Those that end before the last begins, and those that end in it, are all.
  parted : (moment : ℕ) (last : A) → ends_at moment last ≡ true → HasRoom last → Fits (since last) → Fits moment
  parted moment last ends has earlier =
      let parts = and_parts (nat_le from (since last)) (nat_le (until last) moment && nat_le moment (until last))
      ends in
      let after = leb-true from (since last) parts.0 in
      let both = and_parts (nat_le (until last) moment) (nat_le moment (until last)) parts.1 in
      let no_later = leb-true (until last) moment both.0 in
      let no_sooner = leb-true moment (until last) both.1 in
      let split = either_of (by_moment moment) (by_moment (since last)) (ends_in last) all
      (λ k d inside. goes no_sooner (get_or all k d)) in
      plus (count moment) (count (since last)) (length (filter (ends_in last) all)) after no_later no_sooner has.order
      split earlier has.fits
    where
      goes : moment ≤ until last → (other : A) → by_moment moment other ≡ true →
          (by_moment (since last) other ≡ true) ⊎ (ends_in last other ≡ true)
      goes no_sooner other is =
          let parts = and_parts (nat_le from (since other)) (nat_le (until other) moment) is in
          let before = leb-true (until other) moment parts.1 in
          elim (cases_lt (since last) (until other)) [
            | inl inside ↦ inr (and_from (nat_lt (since last) (until other)) (nat_le (until other) (until last))
                (lt-ltb (since last) (until other) inside)
                (le-leb (until other) (until last) (omega (arith, before, no_sooner))))
            | inr sooner ↦ inl (and_from (nat_le from (since other)) (nat_le (until other) (since last)) parts.0
                (le-leb (until other) (since last) sooner))
          ]

      plus : (total before inside : ℕ) → from ≤ since last → until last ≤ moment → moment ≤ until last →
          since last < until last → total ≤ before + inside → c * before ≤ room * (since last - from) →
          c * inside ≤ room * (until last - since last) → c * total ≤ room * (moment - from)
      plus total before inside after no_later no_sooner order split h k =
          let up : c * total ≤ c * (before + inside) = mul-le-mul_left c split in
          let span : moment - from ≡ (since last - from) + (until last - since last) =
          omega (arith, after, no_later, no_sooner, order) in
          subst (λ (n : ℕ). c * total ≤ room * n) (sym span)
          (spread c total before inside (since last - from) (until last - since last) up h k)
        where
          spread : (c total before inside a b : ℕ) → c * total ≤ c * (before + inside) → c * before ≤ room * a →
              c * inside ≤ room * b → c * total ≤ room * (a + b)
          spread c total before inside a b up h k = omega (arith, up, h, k)

  -- Where none is the last, those of the moment before are all.
  nothing_new : (moment : ℕ) → All (λ x. ends_at (suc moment) x ≡ false) all → Fits moment →
      Fits (suc moment)
  nothing_new moment none h =
      let split = either_of (by_moment (suc moment)) (by_moment moment) (ends_at (suc moment)) all
      (λ k d inside. sooner (get_or all k d)) in
      let no_more = none_pass (ends_at (suc moment)) all
      (All-weaker (λ (x : A). ends_at (suc moment) x ≡ false)
      (λ (x : A). ends_at (suc moment) x ≡ true → ⊥)
      (λ x fails passes. both_ways (ends_at (suc moment) x) fails passes) all none) in
      let fewer : count (suc moment) ≤ count moment = omega (arith, split, no_more) in
      let up : c * count (suc moment) ≤ c * count moment = mul-le-mul_left c fewer in
      let longer : room * (moment - from) ≤ room * (suc moment - from) = mul-le-mul_left room (omega arith) in
      omega (arith, up, h, longer)
    where
      sooner : (other : A) → by_moment (suc moment) other ≡ true →
          (by_moment moment other ≡ true) ⊎ (ends_at (suc moment) other ≡ true)
      sooner other is =
          let parts = and_parts (nat_le from (since other)) (nat_le (until other) (suc moment)) is in
          let before = leb-true (until other) (suc moment) parts.1 in
          elim (cases_lt moment (until other)) [
            | inl now ↦ inr (and_from (nat_le from (since other))
                (nat_le (until other) (suc moment) && nat_le (suc moment) (until other)) parts.0
                (and_from (nat_le (until other) (suc moment)) (nat_le (suc moment) (until other)) parts.1
                (le-leb (suc moment) (until other) (omega (arith, now)))))
            | inr earlier ↦ inl (and_from (nat_le from (since other)) (nat_le (until other) moment) parts.0
                (le-leb (until other) moment earlier))
          ]

  none_at_first : All HasRoom all → count 0 ≡ 0
  none_at_first h =
      none_pass (by_moment 0) all
      (All-weaker HasRoom (λ (x : A). by_moment 0 x ≡ true → ⊥)
      (λ x has passes.
      let parts = and_parts (nat_le from (since x)) (nat_le (until x) 0) passes in
      let early = leb-true (until x) 0 parts.1 in
      let order = has.order in
      absurd (omega (arith, early, order))) all h)

  up_to : All HasRoom all → (n moment : ℕ) → moment ≤ n → Fits moment
  up_to h zero zero within =
      subst (λ (n : ℕ). c * n ≤ room * (0 - from)) (sym (none_at_first h)) (omega arith)
  up_to h zero (suc moment) within = absurd (omega (arith, within))
  up_to h (suc n) zero within = up_to h n zero (omega arith)
  up_to h (suc n) (suc moment) within =
      elim (some_or_none (ends_at (suc moment)) HasRoom all h) [
        | inl none ↦ nothing_new moment none (up_to h n moment (omega (arith, within)))
        | inr some ↦
            let last = some.0 in
            let parts = and_parts (nat_le from (since last))
            (nat_le (until last) (suc moment) && nat_le (suc moment) (until last)) some.1 in
            let both = and_parts (nat_le (until last) (suc moment)) (nat_le (suc moment) (until last)) parts.1 in
            let no_later = leb-true (until last) (suc moment) both.0 in
            let order = some.2.order in
            parted (suc moment) last some.1 some.2
            (up_to h n (since last) (omega (arith, within, no_later, order)))
      ]

  pub all_fit : All HasRoom all → (width : ℕ) →
      c * count (from + width) ≤ room * width
  all_fit h width =
      subst (λ (n : ℕ). c * count (from + width) ≤ room * n) (only from width)
      (up_to h (from + width) (from + width) (omega arith))
    where
      only : (a b : ℕ) → a + b - a ≡ b
      only a b = omega arith

  -- where all lie in a window
  pub all_inside : All HasRoom all → (width : ℕ) → All (λ x. by_moment (from + width) x ≡ true) all →
      c * length all ≤ room * width
  all_inside h width inside =
      subst (λ (n : ℕ). c * n ≤ room * width) (all_pass (by_moment (from + width)) all inside) (all_fit h width)
