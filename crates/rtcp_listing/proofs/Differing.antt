-- The changes between two listings, source by source.
use Rattle.std.proofs.Common.{◌≡◌, ◌<◌, ◌≤◌, ◌+◌, ◌==◌, ◌&&◌, ◌++◌, ℕ, suc, nat_lt, not, Bool, true, false, cond, List, [], ◌∷◌, length, filter, map, Option, Some, None, option_map, unwrap_or, ◌⊎◌, inl, inr, arith, refl, sym, ap, subst, ◌∙◌}
use Rattle.std.proofs.lemmas.Bool.{and_parts, cases_lt}
use Rattle.std.proofs.lemmas.Bool.Decides.{nat_tests}
use Rattle.rtcp_listing.specs.declared.change.Role.{Role}
use Rattle.rtcp_listing.specs.declared.change.Role.TheVariants.{Away}
use Rattle.rtcp_listing.specs.declared.change.Change.{Change}
use Rattle.rtcp_listing.specs.Differences.{ListedValue, rises_from, found_in, role_in, has_left_in, compared, is_change, put, by_rising, ssrcs, all_compared, least_first, first_role, first_left, without_first, IsFirst}

-- ---- Tests

from : (low n : ℕ) → not (nat_lt n low) ≡ true → low ≤ n
from low n e = grind (arith, nat_tests, e)

-- ---- Listings that rise

pub rises_first : (low : ℕ) (source : ListedValue) (rest : List ListedValue) → rises_from low (source ∷ rest) ≡ true →
    low ≤ source.ssrc
rises_first low source rest e = from low source.ssrc (and_parts _ _ e).0

pub rises_rest : (low : ℕ) (source : ListedValue) (rest : List ListedValue) → rises_from low (source ∷ rest) ≡ true →
    rises_from (suc source.ssrc) rest ≡ true
rises_rest low source rest e = (and_parts _ _ e).1

pub rises_lower : (low lower : ℕ) (listing : List ListedValue) → lower ≤ low → rises_from low listing ≡ true →
    rises_from lower listing ≡ true
rises_lower low lower [] below e = refl
rises_lower low lower (source ∷ rest) below e =
    let first : low ≤ source.ssrc = rises_first low source rest e in
    let above : not (nat_lt source.ssrc lower) ≡ true = grind (arith, nat_tests, first, below) in
    (λ i. above i && rises_from (suc source.ssrc) rest) ∙ rises_rest low source rest e

pub not_below : (low ssrc : ℕ) (listing : List ListedValue) → rises_from low listing ≡ true → ssrc < low →
    found_in listing ssrc ≡ None
not_below low ssrc [] e less = refl
not_below low ssrc (source ∷ rest) e less =
    let first : low ≤ source.ssrc = rises_first low source rest e in
    let other : (source.ssrc == ssrc) ≡ false = grind (arith, nat_tests, first, less) in
    (λ i. cond (other i) (Some source) (found_in rest ssrc))
    ∙ not_below (suc source.ssrc) ssrc rest (rises_rest low source rest e) (omega arith)

-- ---- Numbers from a least one on

abbrev pub AllFrom : (low : ℕ) → List ℕ → Type 0
AllFrom low [] = Unit {0}
AllFrom low (n ∷ rest) = (low ≤ n) × AllFrom low rest

from_append : (low : ℕ) (ns ms : List ℕ) → AllFrom low ns → AllFrom low ms → AllFrom low (ns ++ ms)
from_append low [] ms a b = b
from_append low (n ∷ rest) ms a b = (a.0, from_append low rest ms a.1 b)

from_put : (low n : ℕ) (ns : List ℕ) → low ≤ n → AllFrom low ns → AllFrom low (put n ns)
from_put low n [] least all = (least, tt)
from_put low n (first ∷ rest) least all =
    elim (nat_lt n first) as (λ b. AllFrom low
    (cond b (n ∷ first ∷ rest) (cond (n == first) (first ∷ rest) (first ∷ put n rest)))) [
      | true ↦ (least, all)
      | false ↦ elim (n == first) as (λ b. AllFrom low (cond b (first ∷ rest) (first ∷ put n rest))) [
        | true ↦ all
        | false ↦ (all.0, from_put low n rest least all.1)
      ]
    ]

from_by_rising : (low : ℕ) (ns : List ℕ) → AllFrom low ns → AllFrom low (by_rising ns)
from_by_rising low [] all = tt
from_by_rising low (n ∷ rest) all = from_put low n (by_rising rest) all.0 (from_by_rising low rest all.1)

from_ssrcs : (low : ℕ) (listing : List ListedValue) → rises_from low listing ≡ true → AllFrom low (ssrcs listing)
from_ssrcs low [] e = tt
from_ssrcs low (source ∷ rest) e = (
  rises_first low source rest e,
  from_ssrcs low rest (rises_lower (suc source.ssrc) low rest
      (let first : low ≤ source.ssrc = rises_first low source rest e in omega arith)
      (rises_rest low source rest e)),
)

-- The least comes first.
put_least : (n : ℕ) (ns : List ℕ) → AllFrom (suc n) ns → put n ns ≡ n ∷ ns
put_least n [] all = refl
put_least n (first ∷ rest) all =
    let less : nat_lt n first ≡ true = grind (arith, nat_tests, all.0) in
    λ i. cond (less i) (n ∷ first ∷ rest) (cond (n == first) (first ∷ rest) (first ∷ put n rest))

put_first : (n m : ℕ) (ns : List ℕ) → n < m → put m (n ∷ ns) ≡ n ∷ put m ns
put_first n m ns less =
    let above : nat_lt m n ≡ false = grind (arith, nat_tests, less) in
    let other : (m == n) ≡ false = grind (arith, nat_tests, less) in
    λ i. cond (above i) (m ∷ n ∷ ns) (cond (other i) (n ∷ ns) (n ∷ put m ns))

put_again : (n : ℕ) (ns : List ℕ) → put n (n ∷ ns) ≡ n ∷ ns
put_again n ns =
    let level : nat_lt n n ≡ false = grind (arith, nat_tests) in
    let itself : (n == n) ≡ true = grind (arith, nat_tests) in
    λ i. cond (level i) (n ∷ n ∷ ns) (cond (itself i) (n ∷ ns) (n ∷ put n ns))

least_comes_first : (n : ℕ) (ns ms : List ℕ) → AllFrom (suc n) ns → AllFrom (suc n) ms →
    by_rising (ns ++ n ∷ ms) ≡ n ∷ by_rising (ns ++ ms)
least_comes_first n [] ms a b = put_least n (by_rising ms) (from_by_rising (suc n) ms b)
least_comes_first n (m ∷ ns) ms a b =
    ap (put m) (least_comes_first n ns ms a.1 b) ∙ put_first n m (by_rising (ns ++ ms)) a.0

-- ---- What is said from a least SSRC on

maps_alike : {X : Type 0} (f g : ℕ → X) (low : ℕ) (ns : List ℕ) → ((n : ℕ) → low ≤ n → f n ≡ g n) → AllFrom low ns →
    map f ns ≡ map g ns
maps_alike f g low [] alike all = refl
maps_alike f g low (n ∷ rest) alike all = (λ i. alike n all.0 i ∷ maps_alike f g low rest alike all.1 i)

-- a listing whose first source may be taken by an SSRC that is not above it
pub record Starts (ssrc : ℕ) (listing : List ListedValue) : Type 0 where
  pub role : role_in listing ssrc ≡ first_role listing ssrc
  pub left : has_left_in listing ssrc ≡ first_left listing ssrc
  pub rises : rises_from (suc ssrc) (without_first listing ssrc) ≡ true
  pub others : (other : ℕ) → suc ssrc ≤ other → found_in listing other ≡ found_in (without_first listing ssrc) other

starts_here : (ssrc : ℕ) (source : ListedValue) (rest : List ListedValue) → rises_from (suc source.ssrc) rest ≡ true →
    source.ssrc ≡ ssrc → Starts ssrc (source ∷ rest)
starts_here ssrc source rest e same =
    let itself : (source.ssrc == ssrc) ≡ true = grind (arith, nat_tests, same) in
    record {
      role = (λ i. unwrap_or (option_map (λ (s : ListedValue). s.role)
          (cond (itself i) (Some source) (found_in rest ssrc))) Away) ∙ sym (λ i. cond (itself i) source.role Away);
      left = (λ i. unwrap_or (option_map (λ (s : ListedValue). s.left)
          (cond (itself i) (Some source) (found_in rest ssrc))) false)
          ∙ sym (λ i. cond (itself i) source.left false);
      rises = (λ i. rises_from (suc ssrc) (cond (itself i) rest (source ∷ rest))) ∙ ap (λ n. rises_from (suc n) rest)
          (sym same) ∙ e;
      others = λ other above.
          let differs : (source.ssrc == other) ≡ false = grind (arith, nat_tests, same, above) in
          (λ i. cond (differs i) (Some source) (found_in rest other))
          ∙ sym (λ i. found_in (cond (itself i) rest (source ∷ rest)) other);
    }

starts_later : (ssrc : ℕ) (source : ListedValue) (rest : List ListedValue) → rises_from (suc source.ssrc) rest ≡ true →
    ssrc < source.ssrc → Starts ssrc (source ∷ rest)
starts_later ssrc source rest e less =
    let other : (source.ssrc == ssrc) ≡ false = grind (arith, nat_tests, less) in
    let none : found_in (source ∷ rest) ssrc ≡ None = (λ i. cond (other i) (Some source) (found_in rest ssrc))
    ∙ not_below (suc source.ssrc) ssrc rest e (omega arith) in
    let above : not (nat_lt source.ssrc (suc ssrc)) ≡ true = grind (arith, nat_tests, less) in
    record {
      role = ap (λ (o : Option ListedValue). unwrap_or (option_map (λ (s : ListedValue). s.role) o) Away) none
          ∙ sym (λ i. cond (other i) source.role Away);
      left = ap (λ (o : Option ListedValue). unwrap_or (option_map (λ (s : ListedValue). s.left) o) false) none
          ∙ sym (λ i. cond (other i) source.left false);
      rises = (λ i. rises_from (suc ssrc) (cond (other i) rest (source ∷ rest)))
          ∙ (λ i. above i && rises_from (suc source.ssrc) rest) ∙ e;
      others = λ next high. sym (λ i. found_in (cond (other i) rest (source ∷ rest)) next);
    }

pub starts : (ssrc : ℕ) (listing : List ListedValue) → rises_from ssrc listing ≡ true → Starts ssrc listing
starts ssrc [] e = record { role = refl; left = refl; rises = refl; others = λ other above. refl }
starts ssrc (source ∷ rest) e =
    let rising : rises_from (suc source.ssrc) rest ≡ true = rises_rest ssrc source rest e in
    let above : ssrc ≤ source.ssrc = rises_first ssrc source rest e in
    elim (cases_lt ssrc source.ssrc) [
      | inl less ↦ starts_later ssrc source rest rising less
      | inr until ↦ starts_here ssrc source rest rising (omega arith)
    ]

-- ---- One source taken from two listings

abbrev pub taken : (before after : List ListedValue) (ssrc : ℕ) → Change
taken before after ssrc =
    record { ssrc = ssrc; was = first_role before ssrc; is = first_role after ssrc; has_left = first_left after ssrc }

-- The SSRC is that of the first source of one, and both are from it on.
pub record Least (ssrc : ℕ) (before after : List ListedValue) : Type 0 where
  pub before_rises : rises_from ssrc before ≡ true
  pub after_rises : rises_from ssrc after ≡ true
  pub numbers : by_rising (ssrcs before ++ ssrcs after) ≡ ssrc ∷ by_rising
      (ssrcs (without_first before ssrc) ++ ssrcs (without_first after ssrc))

module _ (ssrc : ℕ) (before after : List ListedValue) (least : Least ssrc before after) where
  old : Starts ssrc before
  old = starts ssrc before least.before_rises

  new : Starts ssrc after
  new = starts ssrc after least.after_rises

  says : compared before after ssrc ≡ taken before after ssrc
  says = λ i. record { ssrc = ssrc; was = (old.role) i; is = (new.role) i; has_left = (new.left) i }

  others_say : (other : ℕ) → suc ssrc ≤ other → compared before after other ≡ compared (without_first before ssrc)
      (without_first after ssrc) other
  others_say other above =
      λ i. record {
        ssrc = other;
        was = unwrap_or (option_map (λ (source : ListedValue). source.role) (old.others other above i)) Away;
        is = unwrap_or (option_map (λ (source : ListedValue). source.role) (new.others other above i)) Away;
        has_left = unwrap_or (option_map (λ (source : ListedValue). source.left) (new.others other above i)) false;
      }

  others_above : AllFrom (suc ssrc) (by_rising (ssrcs (without_first before ssrc) ++ ssrcs (without_first after ssrc)))
  others_above =
      from_by_rising (suc ssrc) (ssrcs (without_first before ssrc) ++ ssrcs (without_first after ssrc))
      (from_append (suc ssrc) (ssrcs (without_first before ssrc)) (ssrcs (without_first after ssrc))
      (from_ssrcs (suc ssrc) (without_first before ssrc) old.rises)
      (from_ssrcs (suc ssrc) (without_first after ssrc) new.rises))

  pub takes : all_compared before after ≡ taken before after ssrc ∷ all_compared (without_first before ssrc)
      (without_first after ssrc)
  takes =
      ap (map (compared before after)) least.numbers
      ∙ (λ i. says i ∷ maps_alike (compared before after)
      (compared (without_first before ssrc) (without_first after ssrc)) (suc ssrc)
      (by_rising (ssrcs (without_first before ssrc) ++ ssrcs (without_first after ssrc))) others_say others_above
      i)

  pub before_left : rises_from 0 (without_first before ssrc) ≡ true
  before_left = rises_lower (suc ssrc) 0 (without_first before ssrc) (omega arith) old.rises

  pub after_left : rises_from 0 (without_first after ssrc) ≡ true
  after_left = rises_lower (suc ssrc) 0 (without_first after ssrc) (omega arith) new.rises

-- ---- The source of least SSRC

head_is : (ssrc : ℕ) (source : ListedValue) (rest : List ListedValue) → source.ssrc ≡ ssrc →
    ssrcs (source ∷ rest) ≡ ssrc ∷ ssrcs (without_first (source ∷ rest) ssrc)
head_is ssrc source rest same =
    let itself : (source.ssrc == ssrc) ≡ true = grind (arith, nat_tests, same) in
    ap (λ n. n ∷ ssrcs rest) same ∙ sym (λ i. ssrc ∷ ssrcs (cond (itself i) rest (source ∷ rest)))

head_not : (ssrc : ℕ) (source : ListedValue) (rest : List ListedValue) → ssrc < source.ssrc →
    ssrcs (source ∷ rest) ≡ ssrcs (without_first (source ∷ rest) ssrc)
head_not ssrc source rest less =
    let other : (source.ssrc == ssrc) ≡ false = grind (arith, nat_tests, less) in
    sym (λ i. ssrcs (cond (other i) rest (source ∷ rest)))

module _ (n : ℕ) (ns ms : List ℕ) (ns_above : AllFrom (suc n) ns) (ms_above : AllFrom (suc n) ms) where
  all_above : AllFrom (suc n) (by_rising (ns ++ ms))
  all_above = from_by_rising (suc n) (ns ++ ms) (from_append (suc n) ns ms ns_above ms_above)

  both_heads : (xs ys : List ℕ) → xs ≡ n ∷ ns → ys ≡ n ∷ ms → by_rising (xs ++ ys) ≡ n ∷ by_rising (ns ++ ms)
  both_heads xs ys a b =
      (λ i. by_rising (a i ++ b i)) ∙ ap (put n) (least_comes_first n ns ms ns_above ms_above)
      ∙ put_again n (by_rising (ns ++ ms))

  first_head : (xs ys : List ℕ) → xs ≡ n ∷ ns → ys ≡ ms → by_rising (xs ++ ys) ≡ n ∷ by_rising (ns ++ ms)
  first_head xs ys a b = (λ i. by_rising (a i ++ b i)) ∙ put_least n (by_rising (ns ++ ms)) all_above

  second_head : (xs ys : List ℕ) → xs ≡ ns → ys ≡ n ∷ ms → by_rising (xs ++ ys) ≡ n ∷ by_rising (ns ++ ms)
  second_head xs ys a b = (λ i. by_rising (a i ++ b i)) ∙ least_comes_first n ns ms ns_above ms_above

  heads : (xs ys : List ℕ) → (xs ≡ n ∷ ns) ⊎ (xs ≡ ns) → (ys ≡ n ∷ ms) ⊎ (ys ≡ ms) → (xs ≡ n ∷ ns) ⊎ (ys ≡ n ∷ ms) →
      by_rising (xs ++ ys) ≡ n ∷ by_rising (ns ++ ms)
  heads xs ys (inl a) (inl b) some = both_heads xs ys a b
  heads xs ys (inl a) (inr b) some = first_head xs ys a b
  heads xs ys (inr a) (inl b) some = second_head xs ys a b
  heads xs ys (inr a) (inr b) (inl c) = first_head xs ys c b
  heads xs ys (inr a) (inr b) (inr c) = second_head xs ys a c

others_from : (ssrc : ℕ) (listing : List ListedValue) → rises_from ssrc listing ≡ true →
    AllFrom (suc ssrc) (ssrcs (without_first listing ssrc))
others_from ssrc listing e =
    let said : Starts ssrc listing = starts ssrc listing e in
    from_ssrcs (suc ssrc) (without_first listing ssrc) said.rises

rises_here : (low ssrc : ℕ) (source : ListedValue) (rest : List ListedValue) → rises_from low (source ∷ rest) ≡ true →
    ssrc ≤ source.ssrc → rises_from ssrc (source ∷ rest) ≡ true
rises_here low ssrc source rest e above =
    let at : not (nat_lt source.ssrc ssrc) ≡ true = grind (arith, nat_tests, above) in
    (λ i. at i && rises_from (suc source.ssrc) rest) ∙ rises_rest low source rest e

-- A listing has the SSRC first, or not at all.
abbrev IsHead : (ssrc : ℕ) → List ListedValue → Type 0
IsHead ssrc listing = ssrcs listing ≡ ssrc ∷ ssrcs (without_first listing ssrc)

head_or_not : (ssrc : ℕ) (listing : List ListedValue) → rises_from ssrc listing ≡ true →
    IsHead ssrc listing ⊎ (ssrcs listing ≡ ssrcs (without_first listing ssrc))
head_or_not ssrc [] e = inr refl
head_or_not ssrc (source ∷ rest) e =
    let from : ssrc ≤ source.ssrc = rises_first ssrc source rest e in
    elim (cases_lt ssrc source.ssrc) [
      | inl less ↦ inr (head_not ssrc source rest less)
      | inr until ↦ inl (head_is ssrc source rest (omega arith))
    ]

least_from : (ssrc : ℕ) (before after : List ListedValue) → rises_from ssrc before ≡ true →
    rises_from ssrc after ≡ true → IsHead ssrc before ⊎ IsHead ssrc after → Least ssrc before after
least_from ssrc before after b a some = record {
  before_rises = b;
  after_rises = a;
  numbers = heads ssrc (ssrcs (without_first before ssrc)) (ssrcs (without_first after ssrc))
      (others_from ssrc before b) (others_from ssrc after a) (ssrcs before) (ssrcs after) (head_or_not ssrc before b)
      (head_or_not ssrc after a) some;
}

pub least_is : (ssrc : ℕ) (before after : List ListedValue) → rises_from 0 before ≡ true → rises_from 0 after ≡ true →
    least_first before after ≡ Some ssrc → Least ssrc before after
least_is ssrc [] [] b a e = absurd cc
least_is ssrc [] (new ∷ after) b a e =
    let same : new.ssrc ≡ ssrc = cc in
    least_from ssrc [] (new ∷ after) refl (rises_here 0 ssrc new after a (omega arith))
    (inr (head_is ssrc new after same))
least_is ssrc (old ∷ before) [] b a e =
    let same : old.ssrc ≡ ssrc = cc in
    least_from ssrc (old ∷ before) [] (rises_here 0 ssrc old before b (omega arith)) refl
    (inl (head_is ssrc old before same))
least_is ssrc (old ∷ before) (new ∷ after) b a e =
    let least : (cond (nat_lt new.ssrc old.ssrc) new.ssrc old.ssrc) ≡ ssrc = cc in
    let old_from : ssrc ≤ old.ssrc = grind (arith, nat_tests, least) in
    let new_from : ssrc ≤ new.ssrc = grind (arith, nat_tests, least) in
    least_from ssrc (old ∷ before) (new ∷ after) (rises_here 0 ssrc old before b old_from)
    (rises_here 0 ssrc new after a new_from)
    (elim (nat_lt new.ssrc old.ssrc) as (λ b. cond b new.ssrc old.ssrc ≡ ssrc →
    IsHead ssrc (old ∷ before) ⊎ IsHead ssrc (new ∷ after)) [
      | true ↦ λ same. inr (head_is ssrc new after same)
      | false ↦ λ same. inl (head_is ssrc old before same)
    ] least)

-- One listing or the other gets shorter.
fewer_without : (ssrc : ℕ) (listing : List ListedValue) → length (without_first listing ssrc) ≤ length listing
fewer_without ssrc [] = omega arith
fewer_without ssrc (source ∷ rest) =
    elim (source.ssrc == ssrc) as (λ b. length (cond b rest (source ∷ rest)) ≤ length (source ∷ rest)) [
      | true ↦
          omega arith
      | false ↦ omega arith
    ]

fewer_first : (ssrc : ℕ) (source : ListedValue) (rest : List ListedValue) → source.ssrc ≡ ssrc →
    length (without_first (source ∷ rest) ssrc) < length (source ∷ rest)
fewer_first ssrc source rest same =
    let itself : (source.ssrc == ssrc) ≡ true = grind (arith, nat_tests, same) in
    let short : length (without_first (source ∷ rest) ssrc) ≡ length rest =
    λ i. length (cond (itself i) rest (source ∷ rest)) in
    omega arith

pub fewer : (ssrc : ℕ) (before after : List ListedValue) → least_first before after ≡ Some ssrc →
    length (without_first before ssrc) + length (without_first after ssrc) < length before + length after
fewer ssrc [] [] e = absurd cc
fewer ssrc [] (new ∷ after) e =
    let same : new.ssrc ≡ ssrc = cc in
    omega (arith, fewer_first ssrc new after same)
fewer ssrc (old ∷ before) [] e =
    let same : old.ssrc ≡ ssrc = cc in
    omega (arith, fewer_first ssrc old before same)
fewer ssrc (old ∷ before) (new ∷ after) e =
    let least : (cond (nat_lt new.ssrc old.ssrc) new.ssrc old.ssrc) ≡ ssrc = cc in
    elim (nat_lt new.ssrc old.ssrc) as (λ b. cond b new.ssrc old.ssrc ≡ ssrc →
    length (without_first (old ∷ before) ssrc) + length (without_first (new ∷ after) ssrc) < length
    (old ∷ before) + length (new ∷ after)) [
      | true ↦ λ same. omega (arith, fewer_first ssrc new after same, fewer_without ssrc (old ∷ before))
      | false ↦ λ same. omega (arith, fewer_first ssrc old before same, fewer_without ssrc (new ∷ after))
    ] least

-- ---- One turn of the walk

turned : (ssrc : ℕ) (before after : List ListedValue) → rises_from 0 before ≡ true → rises_from 0 after ≡ true →
    least_first before after ≡ Some ssrc → IsFirst before after (taken before after ssrc) (without_first before ssrc)
    (without_first after ssrc)
turned ssrc before after b a e =
    let least : Least ssrc before after = least_is ssrc before after b a e in
    record {
      before_rises = before_left ssrc before after least;
      after_rises = after_left ssrc before after least;
      fewer = fewer ssrc before after e;
      left = ap (filter is_change) (takes ssrc before after least);
    }

-- in the words of the code, which takes the source from each listing for itself
pub first_taken : (ssrc : ℕ) (before after : List ListedValue) → rises_from 0 before ≡ true →
    rises_from 0 after ≡ true → Some ssrc ≡ least_first before after
    → (was is : Role) (has_left : Bool) (others_before others_after : List ListedValue) → was ≡ first_role before ssrc →
    is ≡ first_role after ssrc → has_left ≡ first_left after ssrc
    → others_before ≡ without_first before ssrc → others_after ≡ without_first after ssrc
    → IsFirst before after (record { ssrc = ssrc; was = was; is = is; has_left = has_left }) others_before others_after
first_taken ssrc before after b a e was is has_left others_before others_after old new left shorter_before
    shorter_after =
    subst (λ (o : Role × Role × Bool × List ListedValue × List ListedValue). IsFirst before after
    (record { ssrc = ssrc; was = o.0; is = o.1; has_left = o.2 }) o.3 o.4)
    (λ i. (sym old i, sym new i, sym left i, sym shorter_before i, sym shorter_after i))
    (turned ssrc before after b a (sym e))
