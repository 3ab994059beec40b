-- What is counted of a datagram's names, and the verdict by it.
use Rattle.std.proofs.Common.{◌≡◌, ◌<◌, ◌≤◌, ◌+◌, ◌==◌, ◌||◌, ◌++◌, ℕ, nat_lt, not, Bool, true, false, cond, List, [], ◌∷◌, length, Option, Some, None, option_map, arith, refl, sym, ap, subst, ◌∙◌}
use Rattle.std.proofs.lemmas.Bool.{eqb-true}
use Rattle.std.proofs.lemmas.Bool.Decides.{nat_tests}
use Rattle.std.proofs.lemmas.List.{append-nil, append_assoc}
use Rattle.std.proofs.lemmas.List.Folds.{list_any-append}
use Rattle.rtcp_guard.specs.Claims.{Claim, claim_after, found, owner_in, with_names, is_by, held, is_named, is_of_another, is_strange, before_stranger, is_too_many}
use Rattle.rtcp_guard.specs.Guarding.{judged}
use Rattle.rtcp_guard.specs.declared.verdict.Verdict.TheVariants.{Pass, Stranger, Crowd}
use Rattle.rtcp_guard.specs.Tables.{AreRising}
use Rattle.rtcp_guard.proofs.Putting.{tally, tally_put, tally_all, is_any, one_if, weight}
use Rattle.rtcp_guard.proofs.Claiming.{rising_names, names_append, found_names, held_grows, length_grows}

-- The names that were seen are the origin's own, or claimed by nobody; of the latter there are so many.
pub record IsCounted (origin moment : ℕ) (claims : List Claim) (seen : List ℕ) (fresh : ℕ) : Type 0 where
  pub its : (ssrc : ℕ) → is_named ssrc seen ≡ true → is_of_another origin (owner_in ssrc claims) ≡ false
  pub has : held origin (with_names origin moment seen claims) ≡ held origin claims + fresh
  pub long : length (with_names origin moment seen claims) ≡ length claims + fresh

pub is_itself : (n : ℕ) → n == n ≡ true
is_itself n = grind (arith, nat_tests)

-- one more is named
pub named_more : (ssrc n : ℕ) (names : List ℕ) →
    is_named ssrc (names ++ n ∷ []) ≡ (is_named ssrc names || (n == ssrc || false))
named_more ssrc n names = list_any-append (λ name. name == ssrc) names (n ∷ [])

-- a name is the last one, or was named before
pub of_more : (P : ℕ → Type 0) (n : ℕ) (names : List ℕ) → ((ssrc : ℕ) → is_named ssrc names ≡ true → P ssrc) →
    P n → (ssrc : ℕ) → is_named ssrc (names ++ n ∷ []) ≡ true → P ssrc
of_more P n names all last ssrc named =
    elim (is_named ssrc names) as (λ b. is_named ssrc names ≡ b → b || (n == ssrc || false) ≡ true → P ssrc) [
      | true ↦ λ e is. all ssrc e
      | false ↦ λ e is. elim (n == ssrc) as (λ b. n == ssrc ≡ b → b || false ≡ true → P ssrc) [
        | true ↦ λ same is. subst P (eqb-true n ssrc same) last
        | false ↦ λ other is. absurd cc
      ] refl is
    ] refl (sym (named_more ssrc n names) ∙ named)

or_true : (b : Bool) → b || true ≡ true
or_true true = refl
or_true false = refl

pub counted_none : (origin moment : ℕ) (claims : List Claim) → IsCounted origin moment claims [] 0
counted_none origin moment claims = record {
  its = λ ssrc named. absurd cc;
  has = omega arith;
  long = omega arith;
}

-- ---- One name more

module _ (origin moment : ℕ) (claims : List Claim) (seen : List ℕ) (fresh n : ℕ) (rising : AreRising claims)
    (so : IsCounted origin moment claims seen fresh) where
  abbrev then : List Claim
  then = with_names origin moment seen claims

  more_then : (test : Claim → Bool) → tally test (with_names origin moment (seen ++ n ∷ []) claims)
      + weight test (found n then) ≡ tally test then + one_if (test (claim_after origin moment n (found n then)))
  more_then test =
      ap (λ cs. tally test cs + weight test (found n then)) (names_append origin moment seen (n ∷ []) claims)
      ∙ tally_put test (claim_after origin moment n (found n then)) then (rising_names origin moment seen claims rising)

  its_own : one_if (is_by origin (claim_after origin moment n (found n then))) ≡ 1
  its_own = ap one_if (is_itself origin)

  -- where the source is the origin's already, there are as many as before
  same_held : weight (is_by origin) (found n then) ≡ 1 →
      held origin (with_names origin moment (seen ++ n ∷ []) claims) ≡ held origin claims + fresh
  same_held there = let more = more_then (is_by origin) in let had = so.has in
      omega (arith, more, there, its_own, had)

  same_long : weight is_any (found n then) ≡ 1 →
      length (with_names origin moment (seen ++ n ∷ []) claims) ≡ length claims + fresh
  same_long there =
      let more = more_then is_any in
      let had = so.long in
      let all = tally_all (with_names origin moment (seen ++ n ∷ []) claims) in
      let first = tally_all then in
      omega (arith, more, there, had, all, first)

  is_origins : (o : Option Claim) → option_map (λ (claim : Claim). claim.origin) o ≡ Some origin →
      weight (is_by origin) o ≡ 1
  is_origins None e = absurd cc
  is_origins (Some claim) e =
      let same : claim.origin ≡ origin = cc in ap (λ o. one_if (o == origin)) same ∙ ap one_if (is_itself origin)

  is_there : (o : Option Claim) → option_map (λ (claim : Claim). claim.origin) o ≡ Some origin → weight is_any o ≡ 1
  is_there None e = absurd cc
  is_there (Some claim) e = refl

  its_owner : owner_in n claims ≡ Some origin → owner_in n then ≡ Some origin
  its_owner own = ap (option_map (λ (claim : Claim). claim.origin)) (found_names origin moment n seen claims)
      ∙ elim (is_named n seen) as (λ b. option_map (λ (claim : Claim). claim.origin)
      (cond b (Some (claim_after origin moment n (found n claims))) (found n claims)) ≡ Some origin) [
        | true ↦ refl
        | false ↦ own
      ]

  pub counted_own : owner_in n claims ≡ Some origin → IsCounted origin moment claims (seen ++ n ∷ []) fresh
  counted_own own = record {
    its = of_more (λ ssrc. is_of_another origin (owner_in ssrc claims) ≡ false) n seen so.its
        (ap (is_of_another origin) own ∙ ap not (is_itself origin));
    has = same_held (is_origins (found n then) (its_owner own));
    long = same_long (is_there (found n then) (its_owner own));
  }

  pub counted_again : owner_in n claims ≡ None → is_named n seen ≡ true →
      IsCounted origin moment claims (seen ++ n ∷ []) fresh
  counted_again none named = record {
    its = of_more (λ ssrc. is_of_another origin (owner_in ssrc claims) ≡ false) n seen so.its
        (ap (is_of_another origin) none);
    has = same_held (is_origins (found n then) owner);
    long = same_long (is_there (found n then) owner);
  }
    where
      owner : owner_in n then ≡ Some origin
      owner = ap (option_map (λ (claim : Claim). claim.origin)) (found_names origin moment n seen claims
          ∙ ap (λ b. cond b (Some (claim_after origin moment n (found n claims))) (found n claims)) named)

  no_owner : (o : Option Claim) → option_map (λ (claim : Claim). claim.origin) o ≡ None → o ≡ None
  no_owner None e = refl
  no_owner (Some claim) e = absurd cc

  missing_then : owner_in n claims ≡ None → is_named n seen ≡ false → found n then ≡ None
  missing_then none apart = found_names origin moment n seen claims
      ∙ ap (λ b. cond b (Some (claim_after origin moment n (found n claims))) (found n claims)) apart
      ∙ no_owner (found n claims) none

  pub counted_new : owner_in n claims ≡ None → is_named n seen ≡ false →
      IsCounted origin moment claims (seen ++ n ∷ []) (fresh + 1)
  counted_new none apart = record {
    its = of_more (λ ssrc. is_of_another origin (owner_in ssrc claims) ≡ false) n seen so.its
        (ap (is_of_another origin) none);
    has =
        let more = more_then (is_by origin) in
        let had = so.has in
        let none_there = ap (weight (is_by origin)) (missing_then none apart) in
        omega (arith, more, none_there, its_own, had);
    long =
        let more = more_then is_any in
        let had = so.long in
        let none_there = ap (weight is_any) (missing_then none apart) in
        let all = tally_all (with_names origin moment (seen ++ n ∷ []) claims) in
        let first = tally_all then in
        omega (arith, more, none_there, had, all, first);
  }

-- ---- Verdicts

-- The names that were seen come before any that belongs to another origin.
pub before_more : (origin : ℕ) (claims : List Claim) (seen rest : List ℕ) →
    ((ssrc : ℕ) → is_named ssrc seen ≡ true → is_of_another origin (owner_in ssrc claims) ≡ false) →
    before_stranger origin (seen ++ rest) claims ≡ seen ++ before_stranger origin rest claims
before_more origin claims [] rest its = refl
before_more origin claims (n ∷ seen) rest its =
    ap (λ b. cond b [] (n ∷ before_stranger origin (seen ++ rest) claims))
    (its n (ap (λ b. b || is_named n seen) (is_itself n)))
    ∙ ap (λ ns. n ∷ ns) (before_more origin claims seen rest
    (λ ssrc named. its ssrc (ap (λ b. n == ssrc || b) named ∙ or_true (n == ssrc))))

pub strange_more : (origin : ℕ) (claims : List Claim) (seen rest : List ℕ) →
    ((ssrc : ℕ) → is_named ssrc seen ≡ true → is_of_another origin (owner_in ssrc claims) ≡ false) →
    is_strange origin (seen ++ rest) claims ≡ is_strange origin rest claims
strange_more origin claims [] rest its = refl
strange_more origin claims (n ∷ seen) rest its =
    ap (λ b. b || is_strange origin (seen ++ rest) claims) (its n (ap (λ b. b || is_named n seen) (is_itself n)))
    ∙ strange_more origin claims seen rest
    (λ ssrc named. its ssrc (ap (λ b. n == ssrc || b) named ∙ or_true (n == ssrc)))

module _ (limit room origin moment : ℕ) (claims : List Claim) (seen : List ℕ) (fresh : ℕ) (rest : List ℕ)
    (so : IsCounted origin moment claims seen fresh) where
  few_enough : held origin claims + fresh ≤ limit → length claims + fresh ≤ room →
      is_too_many limit room origin (with_names origin moment seen claims) ≡ false
  few_enough few within =
      let has = so.has in
      let long = so.long in
      let one : nat_lt limit (held origin (with_names origin moment seen claims)) ≡ false =
      grind (arith, nat_tests, has, few) in
      let other : nat_lt room (length (with_names origin moment seen claims)) ≡ false =
      grind (arith, nat_tests, long, within) in
      (λ i. one i || other i)

  pub judged_strange : (n : ℕ) → held origin claims + fresh ≤ limit →
      length claims + fresh ≤ room → is_of_another origin (owner_in n claims) ≡ true →
      Stranger ≡ judged limit room origin moment (seen ++ n ∷ rest) claims
  judged_strange n few within strange =
      let names : List ℕ = seen ++ n ∷ rest in
      let stops : before_stranger origin names claims ≡ seen ++ [] = before_more origin claims seen (n ∷ rest) so.its
      ∙ ap (λ b. seen ++ cond b [] (n ∷ before_stranger origin rest claims)) strange in
      let enough : is_too_many limit room origin (with_names origin moment (before_stranger origin names claims) claims)
      ≡ false
      = ap (λ ns. is_too_many limit room origin (with_names origin moment ns claims)) stops
      ∙ ap (is_too_many limit room origin) (names_append origin moment seen [] claims) ∙ few_enough few within in
      let is : is_strange origin names claims ≡ true = strange_more origin claims seen (n ∷ rest) so.its
      ∙ ap (λ b. b || is_strange origin rest claims) strange in
      sym (λ i. cond (enough i) Crowd (cond (is i) Stranger Pass))

  pub judged_crowd : AreRising claims →
      ((held origin claims + fresh ≤ limit → room < length claims + fresh)) →
      Crowd ≡ judged limit room origin moment (seen ++ rest) claims
  judged_crowd rising many =
      let names : List ℕ = seen ++ rest in
      let then : List Claim = with_names origin moment seen claims in
      let more : List ℕ = before_stranger origin rest claims in
      let rising_then = rising_names origin moment seen claims rising in
      let grows = held_grows origin moment more then rising_then in
      let longer = length_grows origin moment more then rising_then in
      let has = so.has in
      let long = so.long in
      let too : is_too_many limit room origin (with_names origin moment more then) ≡ true =
      many_one (held origin (with_names origin moment more then)) (length (with_names origin moment more then))
      (λ few. let over = many (omega (arith, few, grows, has)) in omega (arith, over, longer, long)) in
      let is : is_too_many limit room origin (with_names origin moment (before_stranger origin names claims) claims)
      ≡ true
      = ap (λ ns. is_too_many limit room origin (with_names origin moment ns claims))
      (before_more origin claims seen rest so.its)
      ∙ ap (is_too_many limit room origin) (names_append origin moment seen more claims) ∙ too in
      sym (ap (λ b. cond b Crowd (cond (is_strange origin names claims) Stranger Pass)) is)
    where
      many_one : (h l : ℕ) → (h ≤ limit → room < l) → nat_lt limit h || nat_lt room l ≡ true
      many_one h l over = elim (nat_lt limit h) as (λ b. nat_lt limit h ≡ b → b || nat_lt room l ≡ true) [
        | true ↦ λ e. refl
        | false ↦ λ e. let fits : h ≤ limit = grind (arith, nat_tests, e) in
            let less = over fits in grind (arith, nat_tests, less)
      ] refl

-- All names were seen.
pub judged_pass : (limit room origin moment : ℕ) (claims : List Claim) (names : List ℕ) (fresh : ℕ) →
    IsCounted origin moment claims names fresh → held origin claims + fresh ≤ limit →
    length claims + fresh ≤ room → Pass ≡ judged limit room origin moment names claims
judged_pass limit room origin moment claims names fresh so few within =
    let nil = append-nil names in
    let all : before_stranger origin names claims ≡ names = ap (λ ns. before_stranger origin ns claims) (sym nil)
    ∙ before_more origin claims names [] so.its ∙ nil in
    let none : is_strange origin names claims ≡ false = ap (λ ns. is_strange origin ns claims) (sym nil)
    ∙ strange_more origin claims names [] so.its in
    let enough : is_too_many limit room origin (with_names origin moment (before_stranger origin names claims) claims)
    ≡ false
    = ap (λ ns. is_too_many limit room origin (with_names origin moment ns claims)) all
    ∙ few_enough limit room origin moment claims names fresh [] so few within in
    sym (λ i. cond (enough i) Crowd (cond (none i) Stranger Pass))

-- ---- What the calls say

pub counted_as : (origin moment : ℕ) (claims : List Claim) (seen next : List ℕ) (fresh more : ℕ) → next ≡ seen →
    more ≡ fresh → IsCounted origin moment claims seen fresh → IsCounted origin moment claims next more
counted_as origin moment claims seen next fresh more e f so =
    subst (λ names. IsCounted origin moment claims names more) (sym e)
    (subst (IsCounted origin moment claims seen) (sym f) so)

pub other_owner : (owner origin : ℕ) → (owner ≡ origin → ⊥) → not (owner == origin) ≡ true
other_owner owner origin apart = elim (owner == origin) as (λ b. owner == origin ≡ b → not b ≡ true) [
  | true ↦ λ e. absurd (apart (eqb-true owner origin e))
  | false ↦ λ e. refl
] refl

-- names that are all the origin's
pub counted_all : (origin moment : ℕ) (claims : List Claim) (seen names : List ℕ) → AreRising claims →
    ((ssrc : ℕ) → is_named ssrc names ≡ true → owner_in ssrc claims ≡ Some origin) →
    IsCounted origin moment claims seen 0 → IsCounted origin moment claims (seen ++ names) 0
counted_all origin moment claims seen [] rising own so =
    counted_as origin moment claims seen (seen ++ []) 0 0 (append-nil seen) refl so
counted_all origin moment claims seen (n ∷ names) rising own so =
    counted_as origin moment claims (seen ++ n ∷ [] ++ names) (seen ++ n ∷ names) 0 0
    (sym (append_assoc seen (n ∷ []) names)) refl
    (counted_all origin moment claims (seen ++ n ∷ []) names rising
    (λ ssrc named. own ssrc (ap (λ b. n == ssrc || b) named ∙ or_true (n == ssrc)))
    (counted_own origin moment claims seen 0 n rising so (own n (ap (λ b. b || is_named n names) (is_itself n)))))
