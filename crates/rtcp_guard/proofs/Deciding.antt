-- The verdict by the first names of a datagram.
use Rattle.std.proofs.Common.{◌≡◌, ◌<◌, ◌≤◌, ◌||◌, ◌++◌, ℕ, nat_lt, Bool, true, false, cond, List, [], ◌∷◌, length, take, drop, Option, Some, None, arith, refl, sym, ap, ◌∙◌}
use Rattle.std.proofs.lemmas.Bool.Decides.{nat_tests}
use Rattle.std.proofs.lemmas.List.{take_all, take-take, take-append-drop}
use Rattle.std.proofs.lemmas.List.Folds.{list_any-append}
use Rattle.rtcp_guard.specs.Claims.{Claim, goodbye_among, is_named, owner_in, with_goodbye, with_names, held, is_of_another, is_strange, before_stranger, is_too_many}
use Rattle.rtcp_guard.specs.Guarding.{GuardValue, has_left_enough, judged, limit_of, room_of, unless_more, verdict_by, verdict_on, after_verdict, counted}
use Rattle.rtcp_guard.specs.declared.verdict.Verdict.{Verdict}
use Rattle.rtcp_guard.specs.declared.verdict.Verdict.TheVariants.{Pass, Stranger, Crowd}
use Rattle.rtcp_guard.specs.Tables.{AreRising}
use Rattle.rtcp_guard.proofs.Claiming.{rising_names, names_append, held_grows, length_grows}

-- ---- All names, or the first 512

pub unless_false : (verdict : Verdict) → unless_more false verdict ≡ verdict
unless_false Pass = refl
unless_false Stranger = refl
unless_false Crowd = refl

module _ (origin moment : ℕ) (names : List ℕ) (goodbye : Option ℕ) (guard : GuardValue) where
  pub decided_short : length names ≤ 512 → verdict_on origin moment names goodbye guard
      ≡ unless_more (has_left_enough origin (goodbye_among names goodbye) guard) (verdict_by origin moment names guard)
  decided_short short =
      let fits : nat_lt 512 (length names) ≡ false = grind (arith, nat_tests, short) in
      (λ i. unless_more (fits i || has_left_enough origin (goodbye_among names goodbye) guard)
      (verdict_by origin moment (take_all 512 names short i) guard))

  -- where it says no BYE that is one too many
  pub decided_whole : length names ≤ 512 → has_left_enough origin (goodbye_among names goodbye) guard ≡ false →
      verdict_on origin moment names goodbye guard ≡ verdict_by origin moment names guard
  decided_whole short left =
      decided_short short ∙ ap (λ b. unless_more b (verdict_by origin moment names guard)) left
      ∙ unless_false (verdict_by origin moment names guard)

  pub decided_spent : length names ≤ 512 → has_left_enough origin (goodbye_among names goodbye) guard ≡ true →
      verdict_on origin moment names goodbye guard ≡ unless_more true (verdict_by origin moment names guard)
  decided_spent short left =
      decided_short short ∙ ap (λ b. unless_more b (verdict_by origin moment names guard)) left

  pub decided_more : 512 < length names →
      verdict_on origin moment names goodbye guard ≡ unless_more true (verdict_by origin moment (take 512 names) guard)
  decided_more long =
      let over : nat_lt 512 (length names) ≡ true = grind (arith, nat_tests, long) in
      ap (λ b. unless_more (b || has_left_enough origin (goodbye_among names goodbye) guard)
      (verdict_by origin moment (take 512 names) guard)) over

-- What is held back claims none of its names, and counts no goodbye.
pub held_any : (origin moment : ℕ) (names others : List ℕ) (goodbye other : Option ℕ) (verdict : Verdict)
    (guard : GuardValue) → after_verdict origin moment names goodbye (unless_more true verdict) guard
    ≡ after_verdict origin moment others other (unless_more true verdict) guard
held_any origin moment names others goodbye other Pass guard = refl
held_any origin moment names others goodbye other Stranger guard = refl
held_any origin moment names others goodbye other Crowd guard = refl

-- ---- What was decided

-- what became of a datagram
pub record Decided
    (origin moment : ℕ) (names : List ℕ) (goodbye : Option ℕ) (guard : GuardValue) (verdict : Verdict)
    (next : GuardValue) : Type 0 where
  pub its : verdict ≡ verdict_on origin moment names goodbye guard
  pub content : next
      ≡ after_verdict origin moment names goodbye (verdict_on origin moment names goodbye guard) guard

-- the guard once a source said goodbye in a datagram with this verdict
abbrev pub leave_if : (ssrc : ℕ) → Verdict → GuardValue → GuardValue
leave_if ssrc Pass guard = record guard { claims = with_goodbye (Some ssrc) guard.claims }
leave_if ssrc Stranger guard = guard
leave_if ssrc Crowd guard = guard

module _ (origin moment : ℕ) (names : List ℕ) (guard : GuardValue) (verdict : Verdict) (next : GuardValue) where
  held_decided : (goodbye : Option ℕ) (gathered : List ℕ) (before : Verdict) →
      verdict_on origin moment names goodbye guard ≡ unless_more true before → verdict ≡ unless_more true before →
      next ≡ after_verdict origin moment gathered None verdict guard →
      Decided origin moment names goodbye guard verdict next
  held_decided goodbye gathered before so is content = record {
    its = is ∙ sym so;
    content = content ∙ ap (λ v. after_verdict origin moment gathered None v guard) is
        ∙ held_any origin moment gathered names None goodbye before guard
        ∙ ap (λ v. after_verdict origin moment names goodbye v guard) (sym so);
  }

  -- by all names, where no BYE counts
  pub by_names : (goodbye : Option ℕ) → length names ≤ 512 → goodbye_among names goodbye ≡ None →
      verdict ≡ unless_more false (verdict_by origin moment names guard) →
      next ≡ after_verdict origin moment names None verdict guard →
      Decided origin moment names goodbye guard verdict next
  by_names goodbye short none is content =
      let its : verdict ≡ verdict_on origin moment names goodbye guard =
      is ∙ unless_false (verdict_by origin moment names guard)
      ∙ sym (decided_whole origin moment names goodbye guard short (ap (λ o. has_left_enough origin o guard) none)) in
      record {
        its = its;
        content = content ∙ ap (λ v. after_verdict origin moment names None v guard) its
            ∙ no_goodbye (verdict_on origin moment names goodbye guard);
      }
    where
      no_goodbye : (v : Verdict) →
          after_verdict origin moment names None v guard ≡ after_verdict origin moment names goodbye v guard
      no_goodbye Pass = ap (λ (o : Option ℕ). record guard {
        claims = with_goodbye o (with_names origin moment names guard.claims);
        held_back = counted origin Pass guard.held_back;
      }) (sym none)
      no_goodbye Stranger = refl
      no_goodbye Crowd = refl

  -- by the first names, where there are more
  pub by_first : (goodbye : Option ℕ) (gathered : List ℕ) → 512 < length names → gathered ≡ take 512 names →
      verdict ≡ unless_more true (verdict_by origin moment gathered guard) →
      next ≡ after_verdict origin moment gathered None verdict guard →
      Decided origin moment names goodbye guard verdict next
  by_first goodbye gathered long first is content =
      held_decided goodbye gathered (verdict_by origin moment (take 512 names) guard)
      (decided_more origin moment names goodbye guard long)
      (is ∙ ap (λ ns. unless_more true (verdict_by origin moment ns guard)) first) content

  -- where the BYE is one too many
  pub by_spent : (goodbye : Option ℕ) → length names ≤ 512 →
      has_left_enough origin (goodbye_among names goodbye) guard ≡ true →
      verdict ≡ unless_more true (verdict_by origin moment names guard) →
      next ≡ after_verdict origin moment names None verdict guard →
      Decided origin moment names goodbye guard verdict next
  by_spent goodbye short spent is content =
      held_decided goodbye names (verdict_by origin moment names guard)
      (decided_spent origin moment names goodbye guard short spent) is content

  -- where the BYE counts, if the datagram passes
  pub by_leaving : (ssrc : ℕ) → length names ≤ 512 → is_named ssrc names ≡ true →
      has_left_enough origin (Some ssrc) guard ≡ false →
      verdict ≡ unless_more false (verdict_by origin moment names guard) →
      next ≡ leave_if ssrc verdict (after_verdict origin moment names None verdict guard) →
      Decided origin moment names (Some ssrc) guard verdict next
  by_leaving ssrc short named left is content =
      let its_name : goodbye_among names (Some ssrc) ≡ Some ssrc = ap (λ b. cond b (Some ssrc) None) named in
      let its : verdict ≡ verdict_on origin moment names (Some ssrc) guard =
      is ∙ unless_false (verdict_by origin moment names guard)
      ∙ sym (decided_whole origin moment names (Some ssrc) guard short
      (ap (λ o. has_left_enough origin o guard) its_name ∙ left)) in
      record {
        its = its;
        content = content
            ∙ ap (λ v. leave_if ssrc v (after_verdict origin moment names None v guard)) its
            ∙ leaves its_name (verdict_on origin moment names (Some ssrc) guard);
      }
    where
      leaves : goodbye_among names (Some ssrc) ≡ Some ssrc → (v : Verdict) →
          leave_if ssrc v (after_verdict origin moment names None v guard)
          ≡ after_verdict origin moment names (Some ssrc) v guard
      leaves its_name Pass = ap (λ (o : Option ℕ). record guard {
        claims = with_goodbye o (with_names origin moment names guard.claims);
        held_back = counted origin Pass guard.held_back;
      }) (sym its_name)
      leaves its_name Stranger = refl
      leaves its_name Crowd = refl

-- ---- A part of the names

or_true : (b : Bool) → b || true ≡ true
or_true true = refl
or_true false = refl

before_first : (origin : ℕ) (claims : List Claim) (xs ys : List ℕ) → is_strange origin xs claims ≡ true →
    before_stranger origin (xs ++ ys) claims ≡ before_stranger origin xs claims
before_first origin claims [] ys strange = absurd cc
before_first origin claims (x ∷ xs) ys strange =
    elim (is_of_another origin (owner_in x claims)) as (λ b. b || is_strange origin xs claims ≡ true →
    cond b [] (x ∷ before_stranger origin (xs ++ ys) claims) ≡ cond b [] (x ∷ before_stranger origin xs claims)) [
      | true ↦ λ is. refl
      | false ↦ λ is. ap (λ ns. x ∷ ns) (before_first origin claims xs ys is)
    ] strange

before_part : (origin : ℕ) (claims : List Claim) (xs ys : List ℕ) →
    (more : List ℕ) × (before_stranger origin (xs ++ ys) claims ≡ before_stranger origin xs claims ++ more)
before_part origin claims [] ys = (before_stranger origin ys claims, refl)
before_part origin claims (x ∷ xs) ys =
    elim (is_of_another origin (owner_in x claims)) as (λ b. (more : List ℕ)
    × (cond b [] (x ∷ before_stranger origin (xs ++ ys) claims)
    ≡ cond b [] (x ∷ before_stranger origin xs claims) ++ more)) [
      | true ↦ ([], refl)
      | false ↦ let so = before_part origin claims xs ys in (so.0, ap (λ ns. x ∷ ns) so.1)
    ]

-- too many stay too many
still_many : (limit room origin moment : ℕ) (more : List ℕ) (claims : List Claim) → AreRising claims →
    is_too_many limit room origin claims ≡ true →
    is_too_many limit room origin (with_names origin moment more claims) ≡ true
still_many limit room origin moment more claims rising many =
    grown (held origin claims) (length claims) (held origin (with_names origin moment more claims))
    (length (with_names origin moment more claims)) (held_grows origin moment more claims rising)
    (length_grows origin moment more claims rising) many
  where
    grown : (h l h' l' : ℕ) → h ≤ h' → l ≤ l' → nat_lt limit h || nat_lt room l ≡ true →
        nat_lt limit h' || nat_lt room l' ≡ true
    grown h l h' l' more longer is =
        elim (nat_lt limit h) as (λ b. nat_lt limit h ≡ b → b || nat_lt room l ≡ true →
        nat_lt limit h' || nat_lt room l' ≡ true) [
          | true ↦ λ e is.
              let less : limit < h = grind (arith, nat_tests, e) in
              let then : limit < h' = omega (arith, less, more) in
              let yes : nat_lt limit h' ≡ true = grind (arith, nat_tests, then) in
              ap (λ b. b || nat_lt room l') yes
          | false ↦ λ e is.
              let less : room < l = grind (arith, nat_tests, is) in
              let then : room < l' = omega (arith, less, longer) in
              let yes : nat_lt room l' ≡ true = grind (arith, nat_tests, then) in
              ap (λ b. nat_lt limit h' || b) yes ∙ or_true (nat_lt limit h')
        ] refl is

module _ (limit room origin moment : ℕ) (claims : List Claim) (xs ys : List ℕ) where
  abbrev many : List ℕ → Bool
  many names = is_too_many limit room origin (with_names origin moment (before_stranger origin names claims) claims)

  when_strange : (many strange : Bool) → cond many Crowd (cond strange Stranger Pass) ≡ Stranger →
      (many ≡ false) × (strange ≡ true)
  when_strange true strange e = absurd cc
  when_strange false true e = (refl, refl)
  when_strange false false e = absurd cc

  when_many : (many strange : Bool) → cond many Crowd (cond strange Stranger Pass) ≡ Crowd → many ≡ true
  when_many true strange e = refl
  when_many false true e = absurd cc
  when_many false false e = absurd cc

  pub part_strange : judged limit room origin moment xs claims ≡ Stranger →
      judged limit room origin moment (xs ++ ys) claims ≡ Stranger
  part_strange is =
      let parts = when_strange (many xs) (is_strange origin xs claims) is in
      let fewer : many (xs ++ ys) ≡ false =
      ap (λ ns. is_too_many limit room origin (with_names origin moment ns claims))
      (before_first origin claims xs ys parts.1) ∙ parts.0 in
      let strange : is_strange origin (xs ++ ys) claims ≡ true =
      list_any-append (λ ssrc. is_of_another origin (owner_in ssrc claims)) xs ys
      ∙ ap (λ b. b || is_strange origin ys claims) parts.1 in
      (λ i. cond (fewer i) Crowd (cond (strange i) Stranger Pass))

  pub part_crowd : AreRising claims → judged limit room origin moment xs claims ≡ Crowd →
      judged limit room origin moment (xs ++ ys) claims ≡ Crowd
  part_crowd rising is =
      let part = before_part origin claims xs ys in
      let front : List ℕ = before_stranger origin xs claims in
      let over : many (xs ++ ys) ≡ true =
      ap (λ ns. is_too_many limit room origin (with_names origin moment ns claims)) part.1
      ∙ ap (is_too_many limit room origin) (names_append origin moment front part.0 claims)
      ∙ still_many limit room origin moment part.0 (with_names origin moment front claims)
      (rising_names origin moment front claims rising) (when_many (many xs) (is_strange origin xs claims) is) in
      ap (λ b. cond b Crowd (cond (is_strange origin (xs ++ ys) claims) Stranger Pass)) over

-- The first names say the verdict, where it is to hold the datagram back.
module _
    (origin moment count : ℕ) (names : List ℕ) (goodbye : Option ℕ) (guard : GuardValue) (short : count ≤ 512) where
  parts : take count names ++ drop count (take 512 names) ≡ take 512 names
  parts = ap (λ ns. ns ++ drop count (take 512 names)) (sym (take-take count 512 names short))
      ∙ take-append-drop count (take 512 names)

  pub first_strange : Stranger ≡ verdict_by origin moment (take count names) guard →
      Stranger ≡ verdict_on origin moment names goodbye guard
  first_strange is = sym (ap
      (unless_more (nat_lt 512 (length names) || has_left_enough origin (goodbye_among names goodbye) guard))
      (ap (λ ns. verdict_by origin moment ns guard) (sym parts)
      ∙ part_strange (limit_of origin guard.settings guard.trusted) (room_of guard.settings) origin moment guard.claims
      (take count names) (drop count (take 512 names)) (sym is)))

  pub first_crowd : AreRising guard.claims → Crowd ≡ verdict_by origin moment (take count names) guard →
      Crowd ≡ verdict_on origin moment names goodbye guard
  first_crowd rising is = sym (ap
      (unless_more (nat_lt 512 (length names) || has_left_enough origin (goodbye_among names goodbye) guard))
      (ap (λ ns. verdict_by origin moment ns guard) (sym parts)
      ∙ part_crowd (limit_of origin guard.settings guard.trusted) (room_of guard.settings) origin moment guard.claims
      (take count names) (drop count (take 512 names)) rising (sym is)))
