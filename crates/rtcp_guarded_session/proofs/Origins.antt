-- Each departure is by a datagram of one of some origins, or by none of theirs.
use Rattle.std.proofs.Common.{◌≡◌, ℕ, ◌+◌, ◌≤◌, ◌==◌, ◌&&◌, ◌||◌, not, nat_lt, nat_le, Bool, true, false, List, [], ◌∷◌, if◌then◌else◌, refl, ap, ◌∙◌, arith, le_refl}
use Rattle.std.specs.List.{AllByRecursion, IsDistinct, list_any, sum_by}
use Rattle.std.proofs.lemmas.Bool.{eqb-true}
use Rattle.std.proofs.lemmas.List.Sums.{sum_by-cons}
use Rattle.rtcp_engine.specs.answers.Setups.{Setup}
use Rattle.rtcp_engine.specs.answers.Acts.{Act, arrived, rtp_sent, ticked, left, configured, forgotten, moment_of}
use Rattle.rtcp_engine.specs.answers.Histories.{History}
use Rattle.rtcp_session.specs.Departures.{departures_within, is_departure_after}
use Rattle.rtcp_guarded.specs.Guarded.{origin_of}
use Rattle.rtcp_guarded_session.specs.Goodbyes.{departures_by, departures_from, is_from, is_from_any, other_departures}

-- ---- Sums

sum_nothing : (xs : List ℕ) → sum_by (λ (x : ℕ). 0) xs ≡ 0
sum_nothing [] = refl
sum_nothing (x ∷ xs) = omega (arith, sum_by-cons (λ (x : ℕ). 0) x xs, sum_nothing xs)

sum_apart : (f g : ℕ → ℕ) (xs : List ℕ) → sum_by (λ x. f x + g x) xs ≡ sum_by f xs + sum_by g xs
sum_apart f g [] = refl
sum_apart f g (x ∷ xs) =
    omega (
      arith,
      sum_by-cons (λ x. f x + g x) x xs,
      sum_by-cons f x xs,
      sum_by-cons g x xs,
      sum_apart f g xs,
    )

none_passes : (xs : List ℕ) → list_any (λ (x : ℕ). false) xs ≡ false
none_passes [] = refl
none_passes (x ∷ xs) = none_passes xs

-- ---- One act

abbrev as_count : Bool → ℕ
as_count b = if b then 1 else 0

abbrev Distinct : List ℕ → Type 0
Distinct origins = IsDistinct (λ one other. one == other) origins

abbrev is_one : (n : ℕ) → (origins : List ℕ) → Bool
is_one n origins = list_any (λ origin. n == origin) origins

module _ (n : ℕ) where
  abbrev is_it : ℕ → ℕ
  is_it origin = as_count (n == origin)

  others : (origin : ℕ) (rest : List ℕ) → n ≡ origin → AllByRecursion (λ other. origin == other ≡ false) rest →
      sum_by is_it rest ≡ 0
  others origin [] same apart = refl
  others origin (other ∷ rest) same apart =
      let here : as_count (n == other) ≡ 0 =
      ap (λ (m : ℕ). as_count (m == other)) same ∙ ap as_count apart.0 in
      omega (arith, here, sum_by-cons is_it other rest, others origin rest same apart.1)

  once : (origins : List ℕ) → Distinct origins →
      sum_by is_it origins + as_count (not (is_one n origins)) ≡ 1
  unfolding IsDistinct
  once [] apart = refl
  once (origin ∷ rest) apart =
      let first = sum_by-cons is_it origin rest in
      let here = by (n == origin) refl (once rest apart.1) in
      omega (arith, first, here)
    where
      by : (same : Bool) → (n == origin) ≡ same → sum_by is_it rest + as_count (not (is_one n rest)) ≡ 1 →
          as_count same + sum_by is_it rest + as_count (not (same || is_one n rest)) ≡ 1
      by true is later = omega (arith, others origin rest (eqb-true n origin is) apart.0)
      by false is later = omega (arith, later)

  at_least_once : (origins : List ℕ) →
      1 ≤ sum_by is_it origins + as_count (not (is_one n origins))
  at_least_once [] = le_refl 1
  at_least_once (origin ∷ rest) =
      let first = sum_by-cons is_it origin rest in
      let here = by (n == origin) (at_least_once rest) in
      omega (arith, first, here)
    where
      by : (same : Bool) → 1 ≤ sum_by is_it rest + as_count (not (is_one n rest)) →
          1 ≤ as_count same + sum_by is_it rest + as_count (not (same || is_one n rest))
      by true later = omega arith
      by false later = omega (arith, later)

-- how often an act is counted among the departures of these origins, and among the others
abbrev times : (counted : Bool) → (origins : List ℕ) → Act → ℕ
times counted origins act =
    sum_by (λ origin. as_count (counted && is_from origin act)) origins
    + as_count (counted && not (is_from_any origins act))

uncounted : (origins : List ℕ) (act : Act) → times false origins act ≡ 0
uncounted origins act = omega (arith, sum_nothing origins)

from_nowhere : (origins : List ℕ) →
    sum_by (λ (origin : ℕ). 0) origins + as_count (not (list_any (λ (origin : ℕ). false) origins)) ≡ 1
from_nowhere origins =
    let none : as_count (not (list_any (λ (origin : ℕ). false) origins)) ≡ 1 =
    ap (λ (b : Bool). as_count (not b)) (none_passes origins) in
    omega (arith, sum_nothing origins, none)

counted_once : (origins : List ℕ) (act : Act) → Distinct origins → times true origins act ≡ 1
counted_once origins (arrived moment peer word datagram) apart = once (origin_of peer) origins apart
counted_once origins (rtp_sent moment timestamp octets) apart = from_nowhere origins
counted_once origins (ticked moment first_word second_word) apart = from_nowhere origins
counted_once origins (left moment word) apart = from_nowhere origins
counted_once origins (configured moment settings) apart = from_nowhere origins
counted_once origins (forgotten moment ssrc) apart = from_nowhere origins

counted_at_least_once : (origins : List ℕ) (act : Act) → 1 ≤ times true origins act
counted_at_least_once origins (arrived moment peer word datagram) = at_least_once (origin_of peer) origins
counted_at_least_once origins (rtp_sent moment timestamp octets) = omega (arith, from_nowhere origins)
counted_at_least_once origins (ticked moment first_word second_word) = omega (arith, from_nowhere origins)
counted_at_least_once origins (left moment word) = omega (arith, from_nowhere origins)
counted_at_least_once origins (configured moment settings) = omega (arith, from_nowhere origins)
counted_at_least_once origins (forgotten moment ssrc) = omega (arith, from_nowhere origins)

-- ---- Histories

module _ (origins : List ℕ) (setup : Setup) (word from until : ℕ) where
  abbrev is_counted : (earlier : List Act) → Act → Bool
  is_counted earlier act =
      is_departure_after (record { setup = setup; word = word; acts = earlier }) act
      && (nat_lt from (moment_of act) && nat_le (moment_of act) until)

  abbrev apart : List Act → ℕ
  apart acts =
      sum_by (λ origin. departures_by (is_from origin) setup word from until acts) origins
      + departures_by (λ act. not (is_from_any origins act)) setup word from until acts

  one_more : (act : Act) (earlier : List Act) →
      apart (act ∷ earlier) ≡ times (is_counted earlier act) origins act + apart earlier
  one_more act earlier =
      let parts = sum_apart (λ origin. as_count (is_counted earlier act && is_from origin act))
      (λ origin. departures_by (is_from origin) setup word from until earlier) origins in
      omega (arith, parts)

  all_once : Distinct origins → (acts : List Act) → departures_within setup word from until acts ≡ apart acts
  all_once distinct [] = omega (arith, sum_nothing origins)
  all_once distinct (act ∷ earlier) =
      omega (arith, one_more act earlier, here (is_counted earlier act), all_once distinct earlier)
    where
      here : (counted : Bool) → as_count counted ≡ times counted origins act
      here true = omega (arith, counted_once origins act distinct)
      here false = omega (arith, uncounted origins act)

  all_at_least_once : (acts : List Act) → departures_within setup word from until acts ≤ apart acts
  all_at_least_once [] = omega arith
  all_at_least_once (act ∷ earlier) =
      omega (arith, one_more act earlier, here (is_counted earlier act), all_at_least_once earlier)
    where
      here : (counted : Bool) → as_count counted ≤ times counted origins act
      here true = counted_at_least_once origins act
      here false = omega arith

pub departures_are_once : (history : History) (origins : List ℕ) (from until : ℕ) →
    IsDistinct (λ one other. one == other) origins →
    departures_within history.setup history.word from until history.acts
    ≡ sum_by (λ origin. departures_from origin from until history) origins + other_departures origins from until history
departures_are_once history origins from until distinct =
    all_once origins history.setup history.word from until distinct history.acts

pub departures_are_among : (history : History) (origins : List ℕ) (from until : ℕ) →
    departures_within history.setup history.word from until history.acts
    ≤ sum_by (λ origin. departures_from origin from until history) origins + other_departures origins from until history
departures_are_among history origins from until =
    all_at_least_once origins history.setup history.word from until history.acts
