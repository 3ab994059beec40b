-- Which origin a source belongs to (RFC 3550, 8.2): claims, by rising SSRC.
use Rattle.std.specs.Prelude.{ℕ, ◌≡◌, ◌==◌, ◌||◌, ◌+◌, not, nat_lt, nat_le, Bool, true, false, List, [], ◌∷◌, length, filter, map, if◌then◌else◌, Option, Some, None, option_map}
use Rattle.std.specs.List.{list_any, sum_by}

pub record Claim : Type 0 where
  -- the source, by its SSRC or CSRC
  pub ssrc : ℕ
  -- where its datagrams come from
  pub origin : ℕ
  -- when a datagram that named it was last passed on
  pub last : ℕ
  -- how many datagrams were passed on of which a BYE speaks of it first, since it is its origin's
  pub goodbyes : ℕ

-- a new claim
abbrev pub claim_by : (origin moment ssrc : ℕ) → Claim
claim_by origin moment ssrc = record { ssrc = ssrc; origin = origin; last = moment; goodbyes = 0 }

-- the goodbyes that an origin has by an earlier claim to a source
abbrev pub goodbyes_before : (origin : ℕ) → (earlier : Option Claim) → ℕ
goodbyes_before origin None = 0
goodbyes_before origin (Some claim) = if claim.origin == origin then claim.goodbyes else 0

-- The claim to a source that an origin names. It keeps its goodbyes where it is the origin's already.
abbrev pub claim_after : (origin moment ssrc : ℕ) → (earlier : Option Claim) → Claim
claim_after origin moment ssrc earlier =
    record { ssrc = ssrc; origin = origin; last = moment; goodbyes = goodbyes_before origin earlier }

-- the claim to a source
abbrev pub found : (ssrc : ℕ) → List Claim → Option Claim
found ssrc [] = None
found ssrc (claim ∷ rest) = if claim.ssrc == ssrc then Some claim else found ssrc rest

abbrev pub owner_in : (ssrc : ℕ) → List Claim → Option ℕ
owner_in ssrc claims = option_map (λ (claim : Claim). claim.origin) (found ssrc claims)

-- the claims with this one, which replaces an earlier one to the same source
abbrev pub put : Claim → List Claim → List Claim
put claim [] = claim ∷ []
put claim (first ∷ rest) =
    if nat_lt first.ssrc claim.ssrc then first ∷ put claim rest
    else (if first.ssrc == claim.ssrc then claim ∷ rest else claim ∷ first ∷ rest)

-- the claims once an origin named a source at a moment
abbrev pub with_name : (origin moment ssrc : ℕ) → List Claim → List Claim
with_name origin moment ssrc claims = put (claim_after origin moment ssrc (found ssrc claims)) claims

-- the claims once an origin named these sources at a moment
abbrev pub with_names : (origin moment : ℕ) → (names : List ℕ) → List Claim → List Claim
with_names origin moment [] claims = claims
with_names origin moment (ssrc ∷ rest) claims =
    with_names origin moment rest (with_name origin moment ssrc claims)

-- the claims whose sources were named at a moment or later
abbrev pub after_lapse : (before : ℕ) → List Claim → List Claim
after_lapse before claims = filter (λ (claim : Claim). nat_le before claim.last) claims

abbrev pub is_by : (origin : ℕ) → Claim → Bool
is_by origin claim = claim.origin == origin

-- how many sources belong to an origin
abbrev pub held : (origin : ℕ) → List Claim → ℕ
held origin claims = length (filter (is_by origin) claims)

-- whether a datagram with these names names a source
abbrev pub is_named : (ssrc : ℕ) → (names : List ℕ) → Bool
is_named ssrc names = list_any (λ name. name == ssrc) names

-- Each of these names is a source of an origin.
abbrev pub AreOwn : (origin : ℕ) → (names : List ℕ) → List Claim → Type 0
AreOwn origin names claims = (ssrc : ℕ) → is_named ssrc names ≡ true → owner_in ssrc claims ≡ Some origin

-- ---- Goodbyes

-- the source of which a datagram says BYE first, where the datagram names it
abbrev pub goodbye_among : (names : List ℕ) → (goodbye : Option ℕ) → Option ℕ
goodbye_among names None = None
goodbye_among names (Some ssrc) = if is_named ssrc names then Some ssrc else None

abbrev pub is_left_by : (ssrc : ℕ) → (goodbye : Option ℕ) → Bool
is_left_by ssrc None = false
is_left_by ssrc (Some other) = ssrc == other

-- the claim with one goodbye more, where it is to the source of which a BYE speaks
abbrev pub claim_leaving : (goodbye : Option ℕ) → Claim → Claim
claim_leaving goodbye claim =
    record claim { goodbyes = (if is_left_by claim.ssrc goodbye then claim.goodbyes + 1 else claim.goodbyes) }

abbrev pub with_goodbye : (goodbye : Option ℕ) → List Claim → List Claim
with_goodbye None claims = claims
with_goodbye (Some ssrc) claims = map (claim_leaving (Some ssrc)) claims

abbrev pub goodbyes_for : (origin : ℕ) → Claim → ℕ
goodbyes_for origin claim = if is_by origin claim then claim.goodbyes else 0

-- How many goodbyes an origin has: those of all claims that are its own.
abbrev pub goodbyes_of : (origin : ℕ) → List Claim → ℕ
goodbyes_of origin claims = sum_by (goodbyes_for origin) claims

-- ---- What is held back

-- whether a source belongs to another origin
abbrev pub is_of_another : (origin : ℕ) → (owner : Option ℕ) → Bool
is_of_another origin None = false
is_of_another origin (Some owner) = not (owner == origin)

abbrev pub is_strange : (origin : ℕ) → (names : List ℕ) → List Claim → Bool
is_strange origin names claims = list_any (λ ssrc. is_of_another origin (owner_in ssrc claims)) names

-- the names before the first one that belongs to another origin
abbrev pub before_stranger : (origin : ℕ) → (names : List ℕ) → List Claim → List ℕ
before_stranger origin [] claims = []
before_stranger origin (ssrc ∷ rest) claims =
    if is_of_another origin (owner_in ssrc claims) then [] else ssrc ∷ before_stranger origin rest claims

-- whether an origin has more than `limit` sources, or all origins together more than `room`
abbrev pub is_too_many : (limit room origin : ℕ) → List Claim → Bool
is_too_many limit room origin claims = nat_lt limit (held origin claims) || nat_lt room (length claims)
