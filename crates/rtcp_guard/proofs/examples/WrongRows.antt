-- What would be wrong: each statement here is a law with a bound that is reached or without one of its premises, and
-- there is a history of which it does not hold.
use Rattle.std.proofs.Common.{◌≡◌, ◌<◌, ◌≤◌, ◌+◌, ◌++◌, ℕ, true, false, List, [], ◌∷◌, length, cond, ◌==◌, Option, Some, None, option_map, refl, arith}
use Rattle.rtcp_guard.specs.declared.settings.Settings.{Settings}
use Rattle.rtcp_guard.specs.declared.verdict.Verdict.TheVariants.{Pass, Crowd}
use Rattle.rtcp_guard.specs.Claims.{Claim, goodbyes_of, held, is_named, is_of_another, owner_in, with_names}
use Rattle.rtcp_guard.specs.Guarding.{GuardStep, datagram_came, check_made, source_expected, GuardValue, limit_of, new_guard, room_of, verdict_on}
use Rattle.rtcp_guard.specs.Histories.{AreWithinHold, IsWithinHold, LosesNone, NamesOnly, are_among, guard_after, is_passed, owner_of, passed_about, passed_goodbyes, without, IsClaimedThroughout, IsNotMoved}
use Rattle.rtcp_guard.proofs.examples.GuardRows.{left_twice, small, named_by_one}

abbrev by : ℕ → Option ℕ
by origin = Some origin

abbrev nobody : Option ℕ
nobody = None

-- An origin may have as many sources as its limit.
fewer_than_the_limit : ((settings : Settings) (history : List GuardStep) (origin : ℕ) →
    held origin (guard_after settings history).claims
    < limit_of origin settings (guard_after settings history).trusted) → ⊥
fewer_than_the_limit law =
    let two : 2 < 2 = law small (datagram_came 1 0 (7 ∷ 8 ∷ []) None ∷ []) 1 in omega (arith, two)

-- One source more than that is too many.
one_too_many : ((guard : GuardValue) (origin moment : ℕ) (names : List ℕ) →
    held origin (with_names origin moment names guard.claims) ≤ limit_of origin guard.settings guard.trusted + 1 →
    verdict_on origin moment names None guard ≡ Pass) → ⊥
one_too_many law =
    let passes : Crowd ≡ Pass = law (new_guard small) 1 0 (7 ∷ 8 ∷ 9 ∷ []) (omega arith) in cc

-- Who speaks last does not have the source.
last_has_it : ((settings : Settings) (history : List GuardStep) (ssrc origin moment : ℕ) →
    owner_of settings ssrc (datagram_came origin moment (ssrc ∷ []) None ∷ history) ≡ Some origin) → ⊥
last_has_it law = let two : by 1 ≡ by 2 = law small named_by_one 7 2 5 in cc

-- Once its claim lapsed a source may be another origin's.
has_it_forever : ((settings : Settings) (ssrc owner : ℕ) (newer older : List GuardStep) →
    owner_of settings ssrc older ≡ Some owner → IsNotMoved ssrc newer →
    owner_of settings ssrc (newer ++ older) ≡ Some owner) → ⊥
has_it_forever law =
    let one : by 2 ≡ by 1 = law small 7 1 (datagram_came 2 20 (7 ∷ []) None ∷ check_made 11 11 ∷ []) named_by_one refl
    tt in
    cc

-- Signalling moves it.
never_moved : ((settings : Settings) (ssrc owner : ℕ) (newer older : List GuardStep) →
    owner_of settings ssrc older ≡ Some owner → IsClaimedThroughout settings ssrc newer older →
    owner_of settings ssrc (newer ++ older) ≡ Some owner) → ⊥
never_moved law =
    let one : by 2 ≡ by 1 = law small 7 1 (source_expected 7 2 5 ∷ []) named_by_one refl (refl, tt) in cc

-- A claim that was last renewed at the hold's start is kept through its end, and no longer.
kept_past_the_hold : ((settings : Settings) (ssrc origin moment : ℕ) →
    owner_of settings ssrc (check_made (moment + settings.hold + 1) (moment + 1)
    ∷ datagram_came origin moment (ssrc ∷ []) None ∷ []) ≡ Some origin) → ⊥
kept_past_the_hold law = let none : nobody ≡ by 1 = law small 7 1 0 in cc

-- Before an origin has a source, others may come first.
nobody_interferes : ((settings : Settings) (ssrc owner : ℕ) (one another older : List GuardStep) →
    without ssrc owner one ≡ without ssrc owner another →
    passed_about settings ssrc one older ≡ passed_about settings ssrc another older) → ⊥
nobody_interferes law =
    let same : datagram_came 2 0 (7 ∷ []) None ∷ [] ≡ datagram_came 1 5 (7 ∷ []) None ∷ [] =
    law small 7 1 (datagram_came 1 5 (7 ∷ []) None ∷ datagram_came 2 0 (7 ∷ []) None ∷ [])
    (datagram_came 1 5 (7 ∷ []) None ∷ []) []
    refl in cc

-- With one source more than it may have, an origin is not always let through.
one_more_always_passes : ((settings : Settings) (history : List GuardStep) (origin moment : ℕ) (few names : List ℕ) →
    NamesOnly origin few history → are_among few names ≡ true → length few ≤ settings.names + 1 →
    is_passed settings origin moment names None history ≡ true) → ⊥
one_more_always_passes law =
    let passes : false ≡ true = law small [] 1 0 (7 ∷ 8 ∷ 9 ∷ []) (7 ∷ 8 ∷ 9 ∷ []) tt refl (omega arith) in cc

-- An origin may have as many goodbyes as sources.
fewer_goodbyes : ((settings : Settings) (history : List GuardStep) (origin : ℕ) →
    goodbyes_of origin (guard_after settings history).claims
    < limit_of origin settings (guard_after settings history).trusted) → ⊥
fewer_goodbyes law = let two : 2 < 2 = law small left_twice 1 in omega (arith, two)

within : (hold moment : ℕ) → moment ≤ hold → IsWithinHold hold 0 moment
within hold moment before = record { from = omega arith; until = omega (arith, before) }

within_left : (hold : ℕ) → 9 ≤ hold → AreWithinHold hold 0 left_twice
within_left hold long = (
  within hold 9 long,
  (within hold 6 (omega (arith, long)), (within hold 1 (omega (arith, long)), (within hold 0 (omega arith), tt))),
)

-- As many as that are passed on in a hold.
fewer_pass : ((settings : Settings) (origin first : ℕ) (newer older : List GuardStep) →
    AreWithinHold settings.hold first newer → LosesNone settings origin newer older →
    passed_goodbyes settings origin newer older
    < limit_of origin settings (guard_after settings (newer ++ older)).trusted) → ⊥
fewer_pass law =
    let two : 2 < 2 = law small 1 0 left_twice [] (within_left 10 (omega arith)) tt in omega (arith, two)

-- In a stretch that is longer than the hold by one, more may be.
few_pass_longer : ((settings : Settings) (origin first : ℕ) (newer older : List GuardStep) →
    AreWithinHold (settings.hold + 1) first newer → LosesNone settings origin newer older →
    passed_goodbyes settings origin newer older
    ≤ limit_of origin settings (guard_after settings (newer ++ older)).trusted) → ⊥
few_pass_longer law =
    let three : 3 ≤ 2 = law small 1 0 (datagram_came 1 11 (7 ∷ []) (Some 7) ∷ check_made 11 11
    ∷ datagram_came 1 0 (7 ∷ []) (Some 7) ∷ datagram_came 1 0 (7 ∷ []) (Some 7) ∷ []) [] (
      within 11 11 (omega arith),
      (within 11 11 (omega arith), (within 11 0 (omega arith), (within 11 0 (omega arith), tt))),
    ) tt in
    omega (arith, three)

-- Nor are they few where the host expects the origin's sources elsewhere meanwhile.
few_pass_moved : ((settings : Settings) (origin first : ℕ) (newer older : List GuardStep) →
    AreWithinHold settings.hold first newer → passed_goodbyes settings origin newer older
    ≤ limit_of origin settings (guard_after settings (newer ++ older)).trusted) → ⊥
few_pass_moved law =
    let three : 3 ≤ 2 = law small 1 0 (datagram_came 1 10 (8 ∷ []) (Some 8) ∷ source_expected 7 2 10 ∷ left_twice) []
    (within 10 10 (omega arith), (within 10 10 (omega arith), within_left 10 (omega arith))) in
    omega (arith, three)

-- Without goodbyes left a BYE does not pass.
leaves_ever : ((guard : GuardValue) (origin moment : ℕ) (names : List ℕ) (goodbye : Option ℕ) →
    goodbyes_of origin guard.claims ≤ limit_of origin guard.settings guard.trusted → length names ≤ 512 →
    ((ssrc : ℕ) → is_named ssrc names ≡ true → is_of_another origin (owner_in ssrc guard.claims) ≡ false) →
    held origin (with_names origin moment names guard.claims) ≤ limit_of origin guard.settings guard.trusted →
    length (with_names origin moment names guard.claims) ≤ room_of guard.settings →
    verdict_on origin moment names goodbye guard ≡ Pass) → ⊥
leaves_ever law =
    let passes : Crowd ≡ Pass = law (guard_after small left_twice) 1 10 (7 ∷ []) (Some 7) (omega arith) (omega arith)
    its (omega arith) (omega arith) in cc
  where
    its : (ssrc : ℕ) → is_named ssrc (7 ∷ []) ≡ true →
        is_of_another 1 (owner_in ssrc (guard_after small left_twice).claims) ≡ false
    its ssrc named = elim (7 == ssrc) as (λ b. is_of_another 1 (option_map (λ (claim : Claim). claim.origin)
        (cond b (Some (record { ssrc = 7; origin = 1; last = 9; goodbyes = 2 })) None)) ≡ false) [
          | true ↦ refl
          | false ↦ refl
        ]
