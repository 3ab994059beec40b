-- The ordinals near the greatest one are those of integers, and the packets that have one are counted.
use Rattle.std.proofs.Common.{◌≡◌, ℕ, ◌+◌, ◌-◌, ◌%◌, ◌<◌, ◌≤◌, ◌↔◌, ℤ, pos, negsuc, ◌-ℤ◌, true, false, if◌then◌else◌, List, [], ◌∷◌, Option, Some, inl, inr, arith, rules, refl, sym, ap, subst, ◌∙◌}
use Rattle.std.proofs.lemmas.Bool.{cases_lt}
use Rattle.std.proofs.lemmas.Bool.Decides.{nat_tests}
use Rattle.rtcp_source.specs.declared.taken.Taken.TheVariants.{Counted, Restarted, Bad}
use Rattle.rtcp_source.specs.Packets.{Given, packet_came, report_came, block_made, CountedPacket, PacketRun, is_near, ordinal_near, follows, run_with, run_of, greatest_ordinal}
use Rattle.rtcp_source.specs.Takings.{HasCounted, packet_at, taken_as, taken_in, with_counted, transit_of}
use Rattle.rtcp_source.specs.Integers.{IsIntegerNear, HasIntegerNear, HasOrdinalNear, IsOrdinalOfInteger, ordinal_of, greatest_integer}
use Rattle.rtcp_source.proofs.Takings.{run_over, counted_after, by_taking}

-- ---- Integers near a greatest one that is not negative

-- what an ordinal near the greatest one is
pub record IsOrdinalNear (greatest seq ordinal : ℕ) : Type 0 where
  pub congruent : ordinal % 65536 ≡ seq
  pub above : greatest < ordinal + 100
  pub below : ordinal < greatest + 3000

near_is_ordinal : (greatest seq : ℕ) → seq < 65536 → 65536 ≤ greatest → is_near greatest seq ≡ true →
    IsOrdinalNear greatest seq (ordinal_near greatest seq)
near_is_ordinal greatest seq small low near =
    record { congruent = grind (arith, nat_tests); above = grind (arith, nat_tests); below = grind (arith, nat_tests) }

found_integer : (greatest seq ordinal : ℕ) → IsOrdinalNear (greatest + 65536) seq ordinal →
    IsOrdinalOfInteger (pos greatest) seq ordinal
found_integer greatest seq ordinal near =
    elim (cases_lt ordinal 65536) as (λ _. IsOrdinalOfInteger (pos greatest) seq ordinal) [
      | inl low ↦ (
        negsuc (65535 - ordinal),
        record {
          congruent = search (rules, near.congruent);
          above = search (rules, near.above);
          below = search rules;
        },
        omega (arith, low),
      )
      | inr high ↦ (
        pos (ordinal - 65536),
        record {
          congruent = search (rules, near.congruent);
          above = search (rules, near.above);
          below = search (rules, near.below);
        },
        omega (arith, high),
      )
    ]

pub has_integer : (greatest seq : ℕ) → seq < 65536 → is_near (greatest + 65536) seq ≡ true →
    IsOrdinalOfInteger (pos greatest) seq (ordinal_near (greatest + 65536) seq)
has_integer greatest seq small near =
    found_integer greatest seq (ordinal_near (greatest + 65536) seq)
    (near_is_ordinal (greatest + 65536) seq small (omega arith) near)

pub has_ordinal : (greatest seq : ℕ) (integer : ℤ) → seq < 65536 → IsIntegerNear (pos greatest) seq integer →
    HasOrdinalNear (greatest + 65536) seq (ordinal_of integer)
has_ordinal greatest seq integer small near = search rules

pub same_integer : (greatest : ℤ) (seq : ℕ) (a b : ℤ) → IsIntegerNear greatest seq a → IsIntegerNear greatest seq b →
    a ≡ b
same_integer greatest seq a b first second = search rules

-- ---- The greatest ordinal of a run

abbrev IsHigh : PacketRun → Type 0
IsHigh run = HasCounted run → 65536 ≤ greatest_ordinal run.counted

pub greatest_high : (given : List Given) → HasCounted (run_of given) → 65536 ≤ greatest_ordinal (run_of given).counted
greatest_high [] = λ some. omega (arith, some)
greatest_high (packet_came seq timestamp arrival octets rate ∷ given) =
    let run : PacketRun = run_of given in
    by_taking (λ old _ _ new. IsHigh old → IsHigh new) seq (transit_of timestamp arrival) octets rate
    (λ p earlier _ _ high some. let low = high (omega arith) in omega (arith, low)) (λ _ _ some. omega arith)
    (λ _ _ some. omega arith) (λ _ high. high) (λ _ high. high) run.counted run.reported run.stray (greatest_high given)
greatest_high (report_came ntp rtp moment ∷ given) = greatest_high given
greatest_high (block_made ∷ given) = greatest_high given

-- ---- Packets that are counted

counted_near : (greatest seq : ℕ) (stray : Option ℕ) → (taken_as (Some greatest) stray seq ≡ Counted)
    ↔ (is_near greatest seq ≡ true)
counted_near greatest seq stray =
    elim (is_near greatest seq) as (λ near. ((if near then Counted else (if follows stray seq then Restarted else Bad))
    ≡ Counted) ↔ (near ≡ true)) [
      | true ↦ ((λ t. refl), (λ t. refl))
      | false ↦ elim (follows stray seq) as (λ b. ((if b then Restarted else Bad) ≡ Counted) ↔ (false ≡ true)) [
        | true ↦ ((λ no. absurd cc), (λ no. absurd cc))
        | false ↦ ((λ no. absurd cc), (λ no. absurd cc))
      ]
    ]

-- the integer of an ordinal from 65536 on
integer_at : (greatest : ℕ) → pos (greatest + 65536) -ℤ pos 65536 ≡ pos greatest
integer_at greatest = search rules

-- Where a greatest ordinal is at least 65536, it is 65536 above its integer.
by_integer : (P : ℕ → ℤ → Type 0) → ((greatest : ℕ) → P (greatest + 65536) (pos greatest)) → (ordinal : ℕ) →
    65536 ≤ ordinal → P ordinal (pos ordinal -ℤ pos 65536)
by_integer P each ordinal low =
    let same : ordinal - 65536 + 65536 ≡ ordinal = omega (arith, low) in
    subst (λ p. P p (pos p -ℤ pos 65536)) same (subst (P (ordinal - 65536 + 65536)) (sym (integer_at (ordinal - 65536)))
    (each (ordinal - 65536)))

counted_at : (seq : ℕ) (stray : Option ℕ) → seq < 65536 → (greatest : ℕ) →
    (taken_as (Some (greatest + 65536)) stray seq ≡ Counted) ↔ HasIntegerNear (pos greatest) seq
counted_at seq stray small greatest =
    let near = counted_near (greatest + 65536) seq stray in (
      (λ counted. let found = has_integer greatest seq small (near.0 counted) in (found.0, found.1)),
      (λ integer. near.1 (has_ordinal greatest seq integer.0 small integer.1).0),
    )

counted_in_run : (seq : ℕ) (counted before : List CountedPacket) (stray : Option ℕ) → seq < 65536 →
    HasCounted (run_over counted before stray) → 65536 ≤ greatest_ordinal counted
    → (taken_in (run_over counted before stray) seq ≡ Counted) ↔ HasIntegerNear
    (greatest_integer (run_over counted before stray)) seq
counted_in_run seq [] before stray small some high = absurd (omega (arith, high))
counted_in_run seq (p ∷ earlier) before stray small some high =
    by_integer (λ ordinal integer. (taken_as (Some ordinal) stray seq ≡ Counted) ↔ HasIntegerNear integer seq)
    (counted_at seq stray small) (greatest_ordinal (p ∷ earlier)) high

pub counted_exactly : (given : List Given) (seq : ℕ) → seq < 65536 → HasCounted (run_of given) →
    (taken_in (run_of given) seq ≡ Counted) ↔ HasIntegerNear (greatest_integer (run_of given)) seq
counted_exactly given seq small some =
    let run : PacketRun = run_of given in counted_in_run seq run.counted run.reported run.stray small some
    (greatest_high given some)

ordinal_at : (seq : ℕ) (integer : ℤ) → seq < 65536 → (greatest : ℕ) → IsIntegerNear (pos greatest) seq integer →
    ordinal_near (greatest + 65536) seq ≡ ordinal_of integer
ordinal_at seq integer small greatest near = (has_ordinal greatest seq integer small near).1

entering : (seq transit octets rate : ℕ) (run : PacketRun) → taken_in run seq ≡ Counted →
    run_with seq transit octets rate run ≡ counted_after seq transit octets rate run
entering seq transit octets rate run =
    by_taking (λ old taken _ new. taken ≡ Counted → new ≡ counted_after seq transit octets rate old) seq transit
    octets rate (λ _ _ _ _ _. refl) (λ _ no. absurd cc) (λ _ no. absurd cc) (λ _ no. absurd cc) (λ _ no. absurd cc)
    run.counted run.reported run.stray

pub enters_run : (given : List Given) (seq timestamp arrival octets rate : ℕ) (integer : ℤ) → seq < 65536 →
    HasCounted (run_of given) → IsIntegerNear (greatest_integer (run_of given)) seq integer
    → run_of (packet_came seq timestamp arrival octets rate ∷ given) ≡ with_counted
    (packet_at (ordinal_of integer) (transit_of timestamp arrival) octets rate) (run_of given)
enters_run given seq timestamp arrival octets rate integer small some near =
    let run : PacketRun = run_of given in
    let counted : taken_in run seq ≡ Counted = (counted_exactly given seq small some).1 (integer, near) in
    let ordinal : ordinal_near (greatest_ordinal run.counted) seq ≡ ordinal_of integer =
    by_integer (λ ordinal greatest. IsIntegerNear greatest seq integer → ordinal_near ordinal seq ≡ ordinal_of integer)
    (ordinal_at seq integer small) (greatest_ordinal run.counted) (greatest_high given some) near in
    entering seq (transit_of timestamp arrival) octets rate run counted
    ∙ ap (λ (ordinal : ℕ). with_counted (packet_at ordinal (transit_of timestamp arrival) octets rate) run) ordinal
