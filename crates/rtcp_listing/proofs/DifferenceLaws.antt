-- The laws of the changes between two listings.
use Rattle.std.proofs.Common.{◌≡◌, ◌<◌, ◌≤◌, ◌+◌, ◌==◌, ◌&&◌, ◌||◌, ◌++◌, ℕ, suc, nat_lt, not, Bool, true, false, cond, List, [], ◌∷◌, filter, map, count_by, if◌then◌else◌, Option, Some, None, option_map, unwrap_or, arith, refl, sym, ap, ◌∙◌}
use Rattle.std.proofs.lemmas.Bool.{and_parts, eqb-true, or_parts}
use Rattle.std.proofs.lemmas.Bool.Decides.{nat_tests}
use Rattle.std.proofs.lemmas.List.Sums.{sum_by-cons}
use Rattle.rtcp_members.specs.Listings.{StateValue, RiseAbove}
use Rattle.rtcp_listing.specs.declared.change.Role.{Role}
use Rattle.rtcp_listing.specs.declared.change.Role.TheVariants.{Away, Member, Sender}
use Rattle.rtcp_listing.specs.declared.change.Change.{Change}
use Rattle.rtcp_listing.specs.Differences.{ListedValue, listed_of, rises_from, found_in, role_in, is_same, compared, is_change, put, by_rising, ssrcs, changes, changed, changes_rise_from}
use Rattle.std.proofs.Math.Bool.{or_assoc}

-- ---- Which numbers stand in a list

abbrev stands_in : (n : ℕ) → List ℕ → Bool
stands_in n [] = false
stands_in n (first ∷ rest) = first == n || stands_in n rest

or_again : (a b : Bool) → a || b ≡ a || (a || b)
or_again true b = refl
or_again false b = refl

or_swap : (a b c : Bool) → a || (b || c) ≡ b || (a || c)
or_swap true true c = refl
or_swap true false c = refl
or_swap false b c = refl

stands_put : (n m : ℕ) (ns : List ℕ) → stands_in n (put m ns) ≡ (m == n || stands_in n ns)
stands_put n m [] = refl
stands_put n m (first ∷ rest) =
    elim (nat_lt m first) as (λ b. stands_in n
    (cond b (m ∷ first ∷ rest) (cond (m == first) (first ∷ rest) (first ∷ put m rest)))
    ≡ (m == n || (first == n || stands_in n rest))) [
      | true ↦ refl
      | false ↦ elim (m == first) as (λ b. m == first ≡ b → stands_in n (cond b (first ∷ rest) (first ∷ put m rest))
          ≡ (m == n || (first == n || stands_in n rest))) [
            | true ↦ λ e. or_again (first == n) (stands_in n rest)
                ∙ ap (λ k. (k == n || (first == n || stands_in n rest)))
                (sym (eqb-true m first e))
            | false ↦ λ e. ap (λ b. (first == n || b)) (stands_put n m rest)
                ∙ or_swap (first == n) (m == n) (stands_in n rest)
          ] refl
    ]

stands_by_rising : (n : ℕ) (ns : List ℕ) → stands_in n (by_rising ns) ≡ stands_in n ns
stands_by_rising n [] = refl
stands_by_rising n (m ∷ rest) = stands_put n m (by_rising rest) ∙ ap (λ b. (m == n || b)) (stands_by_rising n rest)

stands_append : (n : ℕ) (ns ms : List ℕ) → stands_in n (ns ++ ms) ≡ (stands_in n ns || stands_in n ms)
stands_append n [] ms = refl
stands_append n (first ∷ rest) ms =
    ap (λ b. (first == n || b)) (stands_append n rest ms)
    ∙ sym (or_assoc (first == n) (stands_in n rest) (stands_in n ms))

-- ---- They rise

abbrev Sorted : (low : ℕ) → List ℕ → Type 0
Sorted low [] = Unit {0}
Sorted low (n ∷ rest) = (low ≤ n) × Sorted (suc n) rest

sorted_put : (low n : ℕ) (ns : List ℕ) → low ≤ n → Sorted low ns → Sorted low (put n ns)
sorted_put low n [] least all = (least, tt)
sorted_put low n (first ∷ rest) least all =
    elim (nat_lt n first) as (λ b. nat_lt n first ≡ b →
    Sorted low (cond b (n ∷ first ∷ rest) (cond (n == first) (first ∷ rest) (first ∷ put n rest)))) [
      | true ↦ λ less. (least, (grind (arith, nat_tests, less), all.1))
      | false ↦ λ from. elim (n == first) as (λ b. n == first ≡ b →
          Sorted low (cond b (first ∷ rest) (first ∷ put n rest))) [
            | true ↦ λ same. all
            | false ↦ λ other. (all.0, sorted_put (suc first) n rest (grind (arith, nat_tests, from, other)) all.1)
          ] refl
    ] refl

sorted_by_rising : (ns : List ℕ) → Sorted 0 (by_rising ns)
sorted_by_rising [] = tt
sorted_by_rising (n ∷ rest) = sorted_put 0 n (by_rising rest) (omega arith) (sorted_by_rising rest)

lower_is_not_in : (n low : ℕ) (ns : List ℕ) → n < low → Sorted low ns → stands_in n ns ≡ false
lower_is_not_in n low [] less all = refl
lower_is_not_in n low (first ∷ rest) less all =
    let other : (first == n) ≡ false = grind (arith, nat_tests, less, all.0) in
    (λ i. (other i || stands_in n rest)) ∙ lower_is_not_in n (suc first) rest (omega (arith, all.0)) all.1

-- ---- Roles

same_is : (a b : Role) → is_same a b ≡ true → a ≡ b
same_is Away Away e = refl
same_is Away Member e = absurd cc
same_is Away Sender e = absurd cc
same_is Member Away e = absurd cc
same_is Member Member e = refl
same_is Member Sender e = absurd cc
same_is Sender Away e = absurd cc
same_is Sender Member e = absurd cc
same_is Sender Sender e = refl

not_found : (ssrc : ℕ) (listing : List ListedValue) → stands_in ssrc (ssrcs listing) ≡ false →
    found_in listing ssrc ≡ None
not_found ssrc [] e = refl
not_found ssrc (source ∷ rest) e =
    (λ i. cond ((or_parts (source.ssrc == ssrc) (stands_in ssrc (ssrcs rest)) e).0 i) (Some source)
    (found_in rest ssrc))
    ∙ not_found ssrc rest (or_parts (source.ssrc == ssrc) (stands_in ssrc (ssrcs rest)) e).1

away : (ssrc : ℕ) (listing : List ListedValue) → stands_in ssrc (ssrcs listing) ≡ false → role_in listing ssrc ≡ Away
away ssrc listing e = ap (λ (o : Option ListedValue). unwrap_or (option_map (λ (source : ListedValue). source.role) o)
    Away) (not_found ssrc listing e)

abbrev one_if : Bool → ℕ
one_if b = cond b 1 0

abbrev times : ℕ → List Change → ℕ
times ssrc changes = count_by (λ (change : Change). change.ssrc == ssrc) changes

counted_first : (ssrc : ℕ) (change : Change) (rest : List Change) →
    times ssrc (change ∷ rest) ≡ one_if (change.ssrc == ssrc) + times ssrc rest
counted_first ssrc change rest = sum_by-cons (λ (c : Change). cond (c.ssrc == ssrc) 1 0) change rest

module _ (before after : List ListedValue) where
  abbrev of : List ℕ → List Change
  of ns = filter is_change (map (compared before after) ns)

  abbrev differs : ℕ → Bool
  differs ssrc = is_change (compared before after ssrc)

  -- one that stands in neither listing is away by both
  apart : (ssrc : ℕ) → stands_in ssrc (by_rising (ssrcs before ++ ssrcs after)) ≡ false →
      (role_in before ssrc ≡ Away) × (role_in after ssrc ≡ Away)
  apart ssrc e =
      let neither : (stands_in ssrc (ssrcs before) || stands_in ssrc (ssrcs after)) ≡ false =
      sym (stands_append ssrc (ssrcs before) (ssrcs after))
      ∙ sym (stands_by_rising ssrc (ssrcs before ++ ssrcs after)) ∙ e in
      let parts = or_parts (stands_in ssrc (ssrcs before)) (stands_in ssrc (ssrcs after)) neither in
      (away ssrc before parts.0, away ssrc after parts.1)

  -- ---- Each once

  counted : (ssrc low : ℕ) (ns : List ℕ) → Sorted low ns →
      times ssrc (of ns) ≡ one_if (stands_in ssrc ns && differs ssrc)
  counted ssrc low [] all = refl
  counted ssrc low (n ∷ rest) all =
      elim (n == ssrc) as (λ b. n == ssrc ≡ b →
      times ssrc (of (n ∷ rest)) ≡ one_if ((b || stands_in ssrc rest) && differs ssrc)) [
        | true ↦ λ e.
            let same : n ≡ ssrc = eqb-true n ssrc e in
            let none : times ssrc (of rest) ≡ 0 = counted ssrc (suc n) rest all.1 ∙ ap (λ b. one_if (b && differs ssrc))
            (lower_is_not_in ssrc (suc n) rest (omega arith) all.1) in
            here (differs n) (ap differs same) e none
        | false ↦ λ e. other (differs n) e ∙ counted ssrc (suc n) rest all.1
      ] refl
    where
      here : (b : Bool) → b ≡ differs ssrc → n == ssrc ≡ true → times ssrc (of rest) ≡ 0 →
          times ssrc (cond b (compared before after n ∷ of rest) (of rest)) ≡ one_if (differs ssrc)
      here true d e none = counted_first ssrc (compared before after n) (of rest) ∙ (λ i. one_if (e i) + none i)
          ∙ ap one_if d
      here false d e none = none ∙ ap one_if d

      other : (b : Bool) → n == ssrc ≡ false → times ssrc (cond b (compared before after n ∷ of rest) (of rest))
          ≡ times ssrc (of rest)
      other true e = counted_first ssrc (compared before after n) (of rest) ∙ (λ i. one_if (e i) + times ssrc (of rest))
          ∙ omega arith
      other false e = refl

  pub each_once : (ssrc : ℕ) → times ssrc (changes before after)
      ≡ (if is_same (role_in before ssrc) (role_in after ssrc) then 0 else 1)
  each_once ssrc =
      counted ssrc 0 (by_rising (ssrcs before ++ ssrcs after)) (sorted_by_rising (ssrcs before ++ ssrcs after))
      ∙ elim (stands_in ssrc (by_rising (ssrcs before ++ ssrcs after))) as (λ b. stands_in ssrc
      (by_rising (ssrcs before ++ ssrcs after)) ≡ b →
      one_if (b && differs ssrc) ≡ (if is_same (role_in before ssrc) (role_in after ssrc) then 0 else 1)) [
        | true ↦ λ e. elim (is_same (role_in before ssrc) (role_in after ssrc)) as (λ b. one_if (not b)
            ≡ (if b then 0 else 1)) [ true ↦ refl | false ↦ refl ]
        | false ↦ λ e. let is = apart ssrc e in sym (λ i. cond (is_same (is.0 i) (is.1 i)) 0 1)
      ] refl

  -- ---- By rising SSRC

  rise_lower : (low lower : ℕ) (changes : List Change) → lower ≤ low → changes_rise_from low changes ≡ true →
      changes_rise_from lower changes ≡ true
  rise_lower low lower [] below e = refl
  rise_lower low lower (change ∷ rest) below e =
      let first : not (nat_lt change.ssrc low) ≡ true = (and_parts _ _ e).0 in
      let above : not (nat_lt change.ssrc lower) ≡ true = grind (arith, nat_tests, first, below) in
      (λ i. above i && changes_rise_from (suc change.ssrc) rest) ∙ (and_parts _ _ e).1

  rise : (low : ℕ) (ns : List ℕ) → Sorted low ns → changes_rise_from low (of ns) ≡ true
  rise low [] all = refl
  rise low (n ∷ rest) all =
      elim (differs n) as (λ b. changes_rise_from low (cond b (compared before after n ∷ of rest) (of rest)) ≡ true) [
        | true ↦
            let least : low ≤ n = all.0 in
            let above : not (nat_lt n low) ≡ true = grind (arith, nat_tests, least) in
            (λ i. above i && changes_rise_from (suc n) (of rest)) ∙ rise (suc n) rest all.1
        | false ↦ rise_lower (suc n) low (of rest) (omega (arith, all.0)) (rise (suc n) rest all.1)
      ]

  pub all_rise : changes_rise_from 0 (changes before after) ≡ true
  all_rise = rise 0 (by_rising (ssrcs before ++ ssrcs after)) (sorted_by_rising (ssrcs before ++ ssrcs after))

  -- ---- Followed

  either : (b : Bool) (x : Role) → cond (b && true) x x ≡ x
  either true x = refl
  either false x = refl

  neither : (b : Bool) (x y : Role) → cond (b && false) x y ≡ y
  neither true x y = refl
  neither false x y = refl

  abbrev put_role : ℕ → (ℕ → Role) → ℕ → Role
  put_role n roles other = cond (n == other) (role_in after n) (roles other)

  -- by what the changes of the other sources give
  module _ (n : ℕ) (rest : List ℕ) (roles : ℕ → Role) (ssrc : ℕ) (of_rest : (roles : ℕ → Role) →
      changed (of rest) roles ssrc ≡ cond (stands_in ssrc rest && differs ssrc) (role_in after ssrc)
      (roles ssrc)) where
    followed_here : (b : Bool) → b ≡ differs ssrc → n == ssrc ≡ true →
        changed (cond b (compared before after n ∷ of rest) (of rest)) roles ssrc ≡ cond (differs ssrc)
        (role_in after ssrc) (roles ssrc)
    followed_here true d e =
        of_rest (put_role n roles)
        ∙ (λ i. cond (stands_in ssrc rest && sym d i) (role_in after ssrc) (cond (e i) (role_in after n) (roles ssrc)))
        ∙ ap (λ m. cond (stands_in ssrc rest && true) (role_in after ssrc) (role_in after m)) (eqb-true n ssrc e)
        ∙ either (stands_in ssrc rest) (role_in after ssrc)
        ∙ (λ i. cond (d i) (role_in after ssrc) (roles ssrc))
    followed_here false d e =
        of_rest roles
        ∙ (λ i. cond (stands_in ssrc rest && sym d i) (role_in after ssrc) (roles ssrc))
        ∙ neither (stands_in ssrc rest) (role_in after ssrc) (roles ssrc)
        ∙ (λ i. cond (d i) (role_in after ssrc) (roles ssrc))

    followed_other : (b : Bool) → n == ssrc ≡ false → changed (cond b (compared before after n ∷ of rest) (of rest))
        roles ssrc ≡ cond (stands_in ssrc rest && differs ssrc) (role_in after ssrc) (roles ssrc)
    followed_other true e =
        of_rest (put_role n roles)
        ∙ (λ i. cond (stands_in ssrc rest && differs ssrc) (role_in after ssrc)
        (cond (e i) (role_in after n) (roles ssrc)))
    followed_other false e = of_rest roles

  followed : (ns : List ℕ) (ssrc : ℕ) (roles : ℕ → Role) →
      changed (of ns) roles ssrc ≡ cond (stands_in ssrc ns && differs ssrc) (role_in after ssrc) (roles ssrc)
  followed [] ssrc roles = refl
  followed (n ∷ rest) ssrc roles =
      elim (n == ssrc) as (λ b. n == ssrc ≡ b →
      changed (of (n ∷ rest)) roles ssrc ≡ cond ((b || stands_in ssrc rest) && differs ssrc) (role_in after ssrc)
      (roles ssrc)) [
        | true ↦ λ e. followed_here n rest roles ssrc (followed rest ssrc) (differs n) (ap differs (eqb-true n ssrc e))
            e
        | false ↦ λ e. followed_other n rest roles ssrc (followed rest ssrc) (differs n) e
      ] refl

  pub lead_to_the_later : (ssrc : ℕ) → changed (changes before after) (role_in before) ssrc ≡ role_in after ssrc
  lead_to_the_later ssrc =
      followed (by_rising (ssrcs before ++ ssrcs after)) ssrc (role_in before)
      ∙ elim (stands_in ssrc (by_rising (ssrcs before ++ ssrcs after))) as (λ b. stands_in ssrc
      (by_rising (ssrcs before ++ ssrcs after)) ≡ b →
      cond (b && differs ssrc) (role_in after ssrc) (role_in before ssrc) ≡ role_in after ssrc) [
        | true ↦ λ e. elim (is_same (role_in before ssrc) (role_in after ssrc)) as (λ b. is_same (role_in before ssrc)
            (role_in after ssrc) ≡ b → cond (not b) (role_in after ssrc) (role_in before ssrc) ≡ role_in after ssrc) [
              | true ↦ λ same. same_is (role_in before ssrc) (role_in after ssrc) same
              | false ↦ λ other. refl
            ] refl
        | false ↦ λ e. let is = apart ssrc e in is.0 ∙ sym is.1
      ] refl

-- ---- Listings

rise_after : (last : ℕ) (states : List StateValue) → RiseAbove (Some last) states →
    rises_from (suc last) (map listed_of states) ≡ true
rise_after last [] rise = refl
rise_after last (state ∷ rest) rise =
    let after : nat_lt last state.ssrc ≡ true = rise.0 in
    let above : not (nat_lt state.ssrc (suc last)) ≡ true = grind (arith, nat_tests, after) in
    (λ i. above i && rises_from (suc state.ssrc) (map listed_of rest)) ∙ rise_after state.ssrc rest rise.1

pub listed_rise : (states : List StateValue) → RiseAbove None states → rises_from 0 (map listed_of states) ≡ true
listed_rise [] rise = refl
listed_rise (state ∷ rest) rise =
    let above : not (nat_lt state.ssrc 0) ≡ true = grind (arith, nat_tests) in
    (λ i. above i && rises_from (suc state.ssrc) (map listed_of rest)) ∙ rise_after state.ssrc rest rise.1
