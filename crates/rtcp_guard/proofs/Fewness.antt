-- An origin that names only the same few sources.
use Rattle.std.proofs.Common.{◌≡◌, ◌≤◌, ◌+◌, ◌==◌, ◌&&◌, ◌||◌, ℕ, max, nat_le, not, Bool, true, false, cond, List, [], ◌∷◌, filter, length, Option, Some, None, option_map, arith, refl, sym, ap, subst, ◌∙◌}
use Rattle.std.proofs.lemmas.Bool.{eqb-true}
use Rattle.std.proofs.lemmas.Bool.Decides.{nat_tests}
use Rattle.rtcp_guard.specs.declared.settings.Settings.{Settings}
use Rattle.rtcp_guard.specs.Claims.{Claim, claim_after, claim_leaving, found, goodbye_among, owner_in, with_names, is_by, held, is_named, is_of_another}
use Rattle.rtcp_guard.specs.Guarding.{GuardStep, datagram_came, check_made, source_expected, origin_trusted, GuardValue, before_which, has_left_enough, is_trusted, limit_of, may_have, room_of}
use Rattle.rtcp_guard.specs.Histories.{guard_after, is_pass, is_passed, unless_lapsed, claim_of, owner_of, are_among, NamesOnly}
use Rattle.rtcp_guard.specs.Tables.{AreRising}
use Rattle.rtcp_guard.proofs.Orders.{before, same, behind, order, found_first, found_before, found_behind, missing_above}
use Rattle.rtcp_guard.proofs.Putting.{tally_first, one_if}
use Rattle.rtcp_guard.proofs.Claiming.{rising_names, found_names}
use Rattle.rtcp_guard.proofs.Owning.{its_settings, rising_after, owner_after}
use Rattle.rtcp_guard.proofs.Interfering.{few_pass}

both : (a b : Bool) → a && b ≡ true → (a ≡ true) × (b ≡ true)
both true true e = (refl, refl)
both true false e = absurd cc
both false b e = absurd cc

same_some : (a b : ℕ) → Some a ≡ Some b → a ≡ b
same_some a b e = cc

-- ---- Names among others

each_among : (few names : List ℕ) (ssrc : ℕ) → are_among few names ≡ true → is_named ssrc names ≡ true →
    is_named ssrc few ≡ true
each_among few [] ssrc among named = absurd cc
each_among few (name ∷ rest) ssrc among named =
    let parts = both (is_named name few) (are_among few rest) among in
    elim (name == ssrc) as (λ b. name == ssrc ≡ b → b || is_named ssrc rest ≡ true → is_named ssrc few ≡ true) [
      | true ↦ λ e is. ap (λ s. is_named s few) (sym (eqb-true name ssrc e)) ∙ parts.0
      | false ↦ λ e is. each_among few rest ssrc parts.1 is
    ] refl named

-- ---- As many sources as names, at most

-- the names but one
abbrev others : (ssrc : ℕ) → List ℕ → List ℕ
others ssrc names = filter (λ n. not (n == ssrc)) names

others_few : (ssrc : ℕ) (names : List ℕ) → length (others ssrc names) ≤ length names
others_few ssrc [] = omega arith
others_few ssrc (n ∷ names) =
    let so = others_few ssrc names in
    elim (not (n == ssrc)) as (λ b. length (cond b (n ∷ others ssrc names) (others ssrc names)) ≤ length (n ∷ names)) [
      | true ↦ omega arith
      | false ↦ omega arith
    ]

others_fewer : (ssrc : ℕ) (names : List ℕ) → is_named ssrc names ≡ true →
    length (others ssrc names) + 1 ≤ length names
others_fewer ssrc [] named = absurd cc
others_fewer ssrc (n ∷ names) named =
    elim (n == ssrc) as (λ b. b || is_named ssrc names ≡ true →
    length (cond (not b) (n ∷ others ssrc names) (others ssrc names)) + 1 ≤ length (n ∷ names)) [
      | true ↦ λ is. let so = others_few ssrc names in omega arith
      | false ↦ λ is. let so = others_fewer ssrc names is in omega arith
    ] named

others_named : (ssrc other : ℕ) (names : List ℕ) → is_named other names ≡ true → (other ≡ ssrc → ⊥) →
    is_named other (others ssrc names) ≡ true
others_named ssrc other [] named apart = absurd cc
others_named ssrc other (n ∷ names) named apart =
    elim (n == other) as (λ b. n == other ≡ b → b || is_named other names ≡ true →
    is_named other (others ssrc (n ∷ names)) ≡ true) [
      | true ↦ λ e is.
          let its : n ≡ other = eqb-true n other e in
          let stays : not (n == ssrc) ≡ true = grind (arith, nat_tests, its, apart) in
          ap (λ b. is_named other (cond b (n ∷ others ssrc names) (others ssrc names))) stays
          ∙ ap (λ b. b || is_named other (others ssrc names)) e
      | false ↦ λ e is.
          let so = others_named ssrc other names is apart in
          elim (not (n == ssrc)) as (λ b. is_named other (cond b (n ∷ others ssrc names) (others ssrc names)) ≡ true) [
            | true ↦ ap (λ b. b || is_named other (others ssrc names)) e ∙ so
            | false ↦ so
          ]
    ] refl named

-- A source that is claimed after the first claim is another than that.
apart_from : (first : Claim) (rest : List Claim) (ssrc origin : ℕ) → AreRising (first ∷ rest) →
    owner_in ssrc rest ≡ Some origin → ssrc ≡ first.ssrc → ⊥
apart_from first rest ssrc origin rising owns is =
    let none : found ssrc rest ≡ None = missing_above ssrc first.ssrc rest (omega (arith, is)) rising.0 in
    never (sym (ap (option_map (λ (claim : Claim). claim.origin)) none) ∙ owns)
  where
    never : None ≡ Some origin → ⊥
    never e = cc

still_owns : (first : Claim) (rest : List Claim) (ssrc origin : ℕ) → AreRising (first ∷ rest) →
    owner_in ssrc rest ≡ Some origin → owner_in ssrc (first ∷ rest) ≡ Some origin
still_owns first rest ssrc origin rising owns = elim (order first.ssrc ssrc) [
  | before is ↦ ap (option_map (λ (claim : Claim). claim.origin)) (found_before ssrc first rest is) ∙ owns
  | same is ↦ absurd (apart_from first rest ssrc origin rising owns (sym is))
  | behind is ↦ ap (option_map (λ (claim : Claim). claim.origin)) (found_behind ssrc first rest is) ∙ owns
]

pub few_held : (origin : ℕ) (claims : List Claim) (few : List ℕ) → AreRising claims →
    ((ssrc : ℕ) → owner_in ssrc claims ≡ Some origin → is_named ssrc few ≡ true) → held origin claims ≤ length few
few_held origin [] few rising named = omega arith
few_held origin (first ∷ rest) few rising named =
    let all = tally_first (is_by origin) first rest in
    elim (first.origin == origin) as (λ b. first.origin == origin ≡ b → held origin (first ∷ rest) ≤ length few) [
      | true ↦ λ e.
          let its : owner_in first.ssrc (first ∷ rest) ≡ Some origin =
          ap (option_map (λ (claim : Claim). claim.origin)) (found_first first.ssrc first rest refl)
          ∙ ap (λ (o : ℕ). Some o) (eqb-true first.origin origin e) in
          let fewer = others_fewer first.ssrc few (named first.ssrc its) in
          let so = few_held origin rest (others first.ssrc few) rising.1
          (λ ssrc owns. others_named first.ssrc ssrc few (named ssrc (still_owns first rest ssrc origin rising owns))
          (apart_from first rest ssrc origin rising owns)) in
          let one : one_if (first.origin == origin) ≡ 1 = ap one_if e in
          omega (arith, all, fewer, so, one)
      | false ↦ λ e.
          let so = few_held origin rest few rising.1
          (λ ssrc owns. named ssrc (still_owns first rest ssrc origin rising owns)) in
          let none : one_if (first.origin == origin) ≡ 0 = ap one_if e in
          omega (arith, all, so, none)
    ] refl

-- ---- Over a history

lapsed_owner : (from origin : ℕ) (o : Option Claim) →
    option_map (λ (claim : Claim). claim.origin) (unless_lapsed from o) ≡ Some origin →
    option_map (λ (claim : Claim). claim.origin) o ≡ Some origin
lapsed_owner from origin None e = absurd cc
lapsed_owner from origin (Some claim) e =
    elim (nat_le from claim.last) as (λ b. option_map (λ (claim : Claim). claim.origin) (cond b (Some claim) None)
    ≡ Some origin →
    Some claim.origin ≡ Some origin) [
      | true ↦ λ is. is
      | false ↦ λ is. absurd cc
    ] e

module _ (settings : Settings) (origin : ℕ) (few : List ℕ) where
  its_few : (history : List GuardStep) (ssrc : ℕ) → NamesOnly origin few history →
      owner_of settings ssrc history ≡ Some origin → is_named ssrc few ≡ true
  its_few [] ssrc only owns = absurd cc
  its_few (datagram_came other moment names goodbye ∷ earlier) ssrc only owns =
      elim (is_named ssrc names && is_passed settings other moment names goodbye earlier) as (λ b.
      is_named ssrc names && is_passed settings other moment names goodbye earlier ≡ b →
      option_map (λ (claim : Claim). claim.origin)
      (cond b (Some (claim_leaving goodbye (claim_after other moment ssrc (claim_of settings ssrc earlier))))
      (claim_of settings ssrc earlier))
      ≡ Some origin → is_named ssrc few ≡ true) [
        | true ↦ λ e is.
            let parts = both (is_named ssrc names) (is_passed settings other moment names goodbye earlier) e in
            each_among few names ssrc (only.0 (same_some other origin is)) parts.0
        | false ↦ λ e is. its_few earlier ssrc only.1 is
      ] refl owns
  its_few (check_made moment silent ∷ earlier) ssrc only owns =
      its_few earlier ssrc only
      (lapsed_owner (before_which moment silent settings) origin (claim_of settings ssrc earlier) owns)
  its_few (source_expected it other moment ∷ earlier) ssrc only owns =
      elim (it == ssrc && may_have it other moment (guard_after settings earlier)) as (λ b.
      it == ssrc && may_have it other moment (guard_after settings earlier) ≡ b →
      option_map (λ (claim : Claim). claim.origin)
      (cond b (Some (claim_after other moment ssrc (claim_of settings ssrc earlier))) (claim_of settings ssrc earlier))
      ≡ Some origin → is_named ssrc few ≡ true) [
        | true ↦ λ e is.
            let parts = both (it == ssrc) (may_have it other moment (guard_after settings earlier)) e in
            ap (λ s. is_named s few) (sym (eqb-true it ssrc parts.0)) ∙ only.0 (same_some other origin is)
        | false ↦ λ e is. its_few earlier ssrc only.1 is
      ] refl owns
  its_few (origin_trusted other ∷ earlier) ssrc only owns = its_few earlier ssrc only owns

  pub always_pass : (history : List GuardStep) (moment : ℕ) (names : List ℕ) (goodbye : Option ℕ) →
      has_left_enough origin (goodbye_among names goodbye) (guard_after settings history) ≡ false →
      NamesOnly origin few history → are_among few names ≡ true → length few ≤ settings.names → length names ≤ 512 →
      ((ssrc : ℕ) → is_named ssrc names ≡ true → is_of_another origin (owner_of settings ssrc history) ≡ false) →
      length (with_names origin moment names (guard_after settings history).claims) ≤ room_of settings →
      is_passed settings origin moment names goodbye history ≡ true
  always_pass history moment names goodbye left only among small short own room =
      let guard : GuardValue = guard_after settings history in
      let then : List Claim = with_names origin moment names guard.claims in
      let rising = rising_after settings history in
      let same = its_settings settings history in
      let count = few_held origin then few (rising_names origin moment names guard.claims rising)
      (λ ssrc owns. elim (is_named ssrc names) as (λ b. is_named ssrc names ≡ b →
      option_map (λ (claim : Claim). claim.origin)
      (cond b (Some (claim_after origin moment ssrc (found ssrc guard.claims))) (found ssrc guard.claims))
      ≡ Some origin → is_named ssrc few ≡ true) [
        | true ↦ λ e is. each_among few names ssrc among e
        | false ↦ λ e is. its_few history ssrc only (sym (owner_after settings history ssrc) ∙ is)
      ] refl (sym (ap (option_map (λ (claim : Claim). claim.origin))
      (found_names origin moment ssrc names guard.claims))
      ∙ owns)) in
      let least : settings.names ≤ limit_of origin settings guard.trusted =
      elim (is_trusted origin guard.trusted) as (λ b.
      settings.names ≤ cond b (max settings.names settings.trusted_names) settings.names) [
        | true ↦ omega arith
        | false ↦ omega arith
      ] in
      ap is_pass (few_pass guard origin moment names goodbye left short
      (λ ssrc named. ap (is_of_another origin) (owner_after settings history ssrc) ∙ own ssrc named)
      (subst (λ s. held origin then ≤ limit_of origin s guard.trusted) (sym same) (omega (arith, count, small, least)))
      (subst (λ s. length then ≤ room_of s) (sym same) room))
