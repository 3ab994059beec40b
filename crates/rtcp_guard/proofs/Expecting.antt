-- Whether an origin may have a source that is expected of it.
use Rattle.std.proofs.Common.{◌≡◌, ◌<◌, ◌≤◌, ◌+◌, ◌==◌, ◌||◌, ℕ, nat_lt, not, Bool, true, false, List, length, Option, Some, None, option_map, arith, refl, ap, ◌∙◌}
use Rattle.std.proofs.lemmas.Bool.Decides.{nat_tests}
use Rattle.rtcp_guard.specs.Claims.{Claim, claim_after, found, owner_in, with_name, is_by, held, is_too_many}
use Rattle.rtcp_guard.specs.Tables.{AreRising}
use Rattle.rtcp_guard.proofs.Putting.{tally_put, tally_all, is_any, one_if, weight}
use Rattle.rtcp_guard.proofs.Counting.{is_itself}

its_weight : (origin owner : ℕ) (o : Option Claim) → option_map (λ (claim : Claim). claim.origin) o ≡ Some owner →
    weight (is_by origin) o ≡ one_if (owner == origin)
its_weight origin owner None e = absurd cc
its_weight origin owner (Some claim) e =
    let same : claim.origin ≡ owner = cc in ap (λ n. one_if (n == origin)) same

is_there : (owner : ℕ) (o : Option Claim) → option_map (λ (claim : Claim). claim.origin) o ≡ Some owner →
    weight is_any o ≡ 1
is_there owner None e = absurd cc
is_there owner (Some claim) e = refl

no_weight : (test : Claim → Bool) (o : Option Claim) → option_map (λ (claim : Claim). claim.origin) o ≡ None →
    weight test o ≡ 0
no_weight test None e = refl
no_weight test (Some claim) e = absurd cc

both_few : (limit room h l : ℕ) → h ≤ limit → l ≤ room → not (nat_lt limit h || nat_lt room l) ≡ true
both_few limit room h l few within =
    let one : nat_lt limit h ≡ false = grind (arith, nat_tests, few) in
    let other : nat_lt room l ≡ false = grind (arith, nat_tests, within) in
    (λ i. not (one i || other i))

by_limit : (limit room h l before : ℕ) → h ≡ before + 1 → l ≤ room →
    not (nat_lt limit h || nat_lt room l) ≡ nat_lt before limit
by_limit limit room h l before one within =
    elim (nat_lt before limit) as (λ b. nat_lt before limit ≡ b → not (nat_lt limit h || nat_lt room l) ≡ b) [
      | true ↦ λ e.
          let less : before < limit = grind (arith, nat_tests, e) in
          both_few limit room h l (omega (arith, less, one)) within
      | false ↦ λ e.
          let many : limit ≤ before = grind (arith, nat_tests, e) in
          let over : limit < h = omega (arith, many, one) in
          let is : nat_lt limit h ≡ true = grind (arith, nat_tests, over) in
          ap (λ b. not (b || nat_lt room l)) is
    ] refl

or_true : (b : Bool) → b || true ≡ true
or_true true = refl
or_true false = refl

by_room : (limit room h l before : ℕ) → h ≤ limit → l ≡ before + 1 →
    not (nat_lt limit h || nat_lt room l) ≡ nat_lt before room
by_room limit room h l before few one =
    elim (nat_lt before room) as (λ b. nat_lt before room ≡ b → not (nat_lt limit h || nat_lt room l) ≡ b) [
      | true ↦ λ e.
          let less : before < room = grind (arith, nat_tests, e) in
          both_few limit room h l few (omega (arith, less, one))
      | false ↦ λ e.
          let many : room ≤ before = grind (arith, nat_tests, e) in
          let over : room < l = omega (arith, many, one) in
          let is : nat_lt room l ≡ true = grind (arith, nat_tests, over) in
          ap (λ b. not (nat_lt limit h || b)) is ∙ ap not (or_true (nat_lt limit h))
    ] refl

by_either : (limit room h l before : ℕ) → h ≡ before + 1 → limit ≤ before →
    not (nat_lt limit h || nat_lt room l) ≡ false
by_either limit room h l before one many =
    let over : limit < h = omega (arith, many, one) in
    let is : nat_lt limit h ≡ true = grind (arith, nat_tests, over) in
    ap (λ b. not (b || nat_lt room l)) is

module _ (limit room origin moment ssrc : ℕ) (claims : List Claim) (rising : AreRising claims) where
  abbrev then : List Claim
  then = with_name origin moment ssrc claims

  held_then : held origin then + weight (is_by origin) (found ssrc claims) ≡ held origin claims + 1
  held_then =
      let so = tally_put (is_by origin) (claim_after origin moment ssrc (found ssrc claims)) claims rising in
      let one = ap one_if (is_itself origin) in
      omega (arith, so, one)

  long_then : length then + weight is_any (found ssrc claims) ≡ length claims + 1
  long_then =
      let so = tally_put is_any (claim_after origin moment ssrc (found ssrc claims)) claims rising in
      let all = tally_all claims in
      let more = tally_all then in
      omega (arith, so, all, more)

  pub may_keep : owner_in ssrc claims ≡ Some origin → held origin claims ≤ limit → length claims ≤ room →
      not (is_too_many limit room origin then) ≡ true
  may_keep own few within =
      let one = its_weight origin origin (found ssrc claims) own ∙ ap one_if (is_itself origin) in
      let there = is_there origin (found ssrc claims) own in
      both_few limit room (held origin then) (length then)
      (omega (arith, held_then, one, few)) (omega (arith, long_then, there, within))

  pub may_move : (owner : ℕ) → owner_in ssrc claims ≡ Some owner → (owner ≡ origin → ⊥) → length claims ≤ room →
      not (is_too_many limit room origin then) ≡ nat_lt (held origin claims) limit
  may_move owner is apart within =
      let other : owner == origin ≡ false = grind (arith, nat_tests, apart) in
      let none : weight (is_by origin) (found ssrc claims) ≡ 0 = its_weight origin owner (found ssrc claims) is
      ∙ ap one_if other in
      let there = is_there owner (found ssrc claims) is in
      by_limit limit room (held origin then) (length then) (held origin claims)
      (omega (arith, held_then, none)) (omega (arith, long_then, there, within))

  pub may_join : owner_in ssrc claims ≡ None → held origin claims < limit →
      not (is_too_many limit room origin then) ≡ nat_lt (length claims) room
  may_join none few =
      let not_held = no_weight (is_by origin) (found ssrc claims) none in
      let not_there = no_weight is_any (found ssrc claims) none in
      by_room limit room (held origin then) (length then) (length claims)
      (omega (arith, held_then, not_held, few)) (omega (arith, long_then, not_there))

  pub may_not_join : owner_in ssrc claims ≡ None → limit ≤ held origin claims →
      not (is_too_many limit room origin then) ≡ false
  may_not_join none many =
      let not_held = no_weight (is_by origin) (found ssrc claims) none in
      by_either limit room (held origin then) (length then) (held origin claims)
      (omega (arith, held_then, not_held)) many
