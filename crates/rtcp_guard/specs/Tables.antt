-- Claims in cells side by side, by rising SSRC.
use Rattle.std.specs.Prelude.{ℕ, zero, suc, ◌≡◌, ◌<◌, ◌≤◌, ◌-◌, ◌^◌, min, List, [], ◌∷◌, length, map, slice_index_or, Result, Ok, Err, None, true}
use Rattle.std.specs.List.{AllByRecursion}
use Rattle.rtcp_guard.specs.Claims.{Claim, found, goodbyes_of, held, is_named}
use Rattle.rtcp_guard.specs.Guarding.{limit_of, room_of}
use Rattle.rtcp_guard.specs.declared.cells.Cell.{Cell}
use Rattle.rtcp_guard.specs.declared.settings.Settings.{Settings}
use Rattle.rtcp_guard.specs.declared.tallies.Tally.{Tally}

abbrev pub claim_in : Cell → Claim
claim_in cell =
    record { ssrc = cell.ssrc; origin = cell.origin; last = cell.last; goodbyes = cell.goodbyes }

abbrev pub claims_in : List Cell → List Claim
claims_in cells = map claim_in cells

-- what is read where there is none
abbrev pub no_cell : Cell
no_cell = record { ssrc = 0; hint = 0; goodbyes = 0; origin = 0; last = 0 }

-- The claims, and how many there is room for.
pub record TableValue : Type 0 where
  pub items : List Claim
  pub room : ℕ

-- ---- Order

-- each SSRC is above this one
abbrev pub AreAbove : (ssrc : ℕ) → List Claim → Type 0
AreAbove ssrc claims = AllByRecursion (λ (claim : Claim). ssrc < claim.ssrc) claims

-- The SSRCs strictly rise.
abbrev pub AreRising : List Claim → Type 0
AreRising [] = Unit {0}
AreRising (claim ∷ rest) = AreAbove claim.ssrc rest × AreRising rest

-- The names strictly rise.
abbrev pub AreRisingNames : (names : List ℕ) → Type 0
AreRisingNames [] = Unit {0}
AreRisingNames (name ∷ rest) = AllByRecursion (λ (other : ℕ). name < other) rest × AreRisingNames rest

-- None of these sources is claimed.
abbrev pub AreUnclaimed : (names : List ℕ) → List Claim → Type 0
AreUnclaimed names claims = (ssrc : ℕ) → is_named ssrc names ≡ true → found ssrc claims ≡ None

-- each source was last named at this moment or later
abbrev pub AreSince : (moment : ℕ) → List Claim → Type 0
AreSince moment claims = AllByRecursion (λ (claim : Claim). moment ≤ claim.last) claims

-- A source is claimed here.
pub record IsRankOf (ssrc : ℕ) (claims : List Claim) (rank : ℕ) : Type 0 where
  pub within : rank < length claims
  pub its_ssrc : (d : Claim) → (slice_index_or claims rank d).ssrc ≡ ssrc

-- A source is not claimed, and its claim would stand here: after each lesser SSRC, and before each greater one.
abbrev pub IsGap : (ssrc : ℕ) → List Claim → (gap : ℕ) → Type 0
IsGap ssrc [] zero = Unit {0}
IsGap ssrc [] (suc gap) = ⊥
IsGap ssrc (claim ∷ rest) zero = ssrc < claim.ssrc
IsGap ssrc (claim ∷ rest) (suc gap) = (claim.ssrc < ssrc) × IsGap ssrc rest gap

-- What a search of a source comes to: its rank, or else the gap where its claim would stand.
abbrev pub Locates : (ssrc : ℕ) → List Claim → Result ℕ ℕ → Type 0
Locates ssrc claims (Ok rank) = IsRankOf ssrc claims rank
Locates ssrc claims (Err gap) = IsGap ssrc claims gap

-- ---- Counts

-- what is counted of the claims of an origin: its sources, and its goodbyes
pub record IsTally (claims : List Claim) (tally : Tally) : Type 0 where
  pub count : tally.count ≡ held tally.origin claims
  pub goodbyes : tally.goodbyes ≡ goodbyes_of tally.origin claims

-- Each of these origins has as many sources and goodbyes as its tally says.
abbrev pub AreTallies : List Claim → List Tally → Type 0
AreTallies claims tallies = AllByRecursion (IsTally claims) tallies

-- The goodbyes of no origin pass 16 bits.
abbrev pub AreFewGoodbyes : List Claim → Type 0
AreFewGoodbyes claims = (origin : ℕ) → goodbyes_of origin claims < 2 ^ 16

-- So many sources more an origin may have that has no more than it may.
pub record IsSpare (limit room origin : ℕ) (claims : List Claim) (spare : ℕ) : Type 0 where
  pub few : held origin claims ≤ limit
  pub within : length claims ≤ room
  pub least : spare ≡ min (limit - held origin claims) (room - length claims)

-- ---- What holds at any time

pub record IsTable (claims : List Claim) (room oldest : ℕ) (tallies : List Tally) : Type 0 where
  pub rising : AreRising claims
  pub since : AreSince oldest claims
  pub counted : AreTallies claims tallies
  pub within : length claims ≤ room
  pub small : room < 2 ^ 32
  pub leaving : AreFewGoodbyes claims

-- No origin has more sources than it may, nor more goodbyes, nor have all together more sources.
pub record IsBounded (settings : Settings) (trusted : List ℕ) (claims : List Claim) : Type 0 where
  pub rising : AreRising claims
  pub few : (origin : ℕ) → held origin claims ≤ limit_of origin settings trusted
  pub leaving : (origin : ℕ) → goodbyes_of origin claims ≤ limit_of origin settings trusted
  pub within : length claims ≤ room_of settings

pub record IsGuard (settings : Settings) (trusted : List ℕ) (claims : List Claim) (room : ℕ) : Type 0 where
  pub bounded : IsBounded settings trusted claims
  pub roomy : room ≡ room_of settings
