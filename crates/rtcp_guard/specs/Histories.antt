-- A guard over its history, the newest step first, and who owns a source by it (RFC 3550, 8.2).
use Rattle.std.specs.Prelude.{ℕ, ◌≡◌, ◌≤◌, ◌==◌, ◌&&◌, ◌++◌, ◌+◌, not, nat_le, Bool, true, false, List, [], ◌∷◌, if◌then◌else◌, Option, Some, None, option_map, is_some}
use Rattle.std.specs.List.{list_all}
use Rattle.rtcp_guard.specs.declared.settings.Settings.{Settings}
use Rattle.rtcp_guard.specs.declared.verdict.Verdict.{Verdict}
use Rattle.rtcp_guard.specs.declared.verdict.Verdict.TheVariants.{Pass, Stranger, Crowd}
use Rattle.rtcp_guard.specs.Claims.{Claim, claim_after, claim_leaving, goodbye_among, is_named}
use Rattle.rtcp_guard.specs.Guarding.{GuardStep, datagram_came, check_made, source_expected, origin_trusted, GuardValue, new_guard, after, before_which, may_have, verdict_on}

-- ---- The guard

-- The guard after these steps.
abbrev pub guard_after : Settings → (history : List GuardStep) → GuardValue
guard_after settings [] = new_guard settings
guard_after settings (step ∷ earlier) = after step (guard_after settings earlier)

-- a guard that went through these steps
abbrev pub StandsAt : GuardValue → (history : List GuardStep) → Type 0
StandsAt guard history = guard ≡ guard_after guard.settings history

abbrev pub is_pass : Verdict → Bool
is_pass Pass = true
is_pass Stranger = false
is_pass Crowd = false

-- Whether a datagram that comes after these steps is passed on.
abbrev pub is_passed : Settings → (origin moment : ℕ) → (names : List ℕ) → (goodbye : Option ℕ) →
    (earlier : List GuardStep) → Bool
is_passed settings origin moment names goodbye earlier =
    is_pass (verdict_on origin moment names goodbye (guard_after settings earlier))

-- ---- Who owns a source

abbrev pub unless_lapsed : (before : ℕ) → Option Claim → Option Claim
unless_lapsed before None = None
unless_lapsed before (Some claim) = if nat_le before claim.last then Some claim else None

-- The claim to a source: that of the origin of the last datagram that was passed on and named it, or of the one where
-- the host last expected it, whichever is later, unless it lapsed since. It has a goodbye for each datagram that was
-- passed on and said BYE of it first, since it is its origin's.
abbrev pub claim_of : Settings → (ssrc : ℕ) → (history : List GuardStep) → Option Claim
claim_of settings ssrc [] = None
claim_of settings ssrc (datagram_came origin moment names goodbye ∷ earlier) =
    if is_named ssrc names && is_passed settings origin moment names goodbye earlier
    then Some (claim_leaving goodbye (claim_after origin moment ssrc (claim_of settings ssrc earlier)))
    else claim_of settings ssrc earlier
claim_of settings ssrc (check_made moment silent ∷ earlier) =
    unless_lapsed (before_which moment silent settings) (claim_of settings ssrc earlier)
claim_of settings ssrc (source_expected other origin moment ∷ earlier) =
    if other == ssrc && may_have other origin moment (guard_after settings earlier)
    then Some (claim_after origin moment ssrc (claim_of settings ssrc earlier))
    else claim_of settings ssrc earlier
claim_of settings ssrc (origin_trusted origin ∷ earlier) = claim_of settings ssrc earlier

-- the origin that a source belongs to
abbrev pub owner_of : Settings → (ssrc : ℕ) → (history : List GuardStep) → Option ℕ
owner_of settings ssrc history = option_map (λ (claim : Claim). claim.origin) (claim_of settings ssrc history)

-- ---- Stretches of a history: of these steps the newest stand first, and they follow older ones

-- A source is claimed after each of these steps.
abbrev pub IsClaimedThroughout : Settings → (ssrc : ℕ) → (newer older : List GuardStep) → Type 0
IsClaimedThroughout settings ssrc [] older = Unit {0}
IsClaimedThroughout settings ssrc (step ∷ newer) older =
    (is_some (claim_of settings ssrc (step ∷ newer ++ older)) ≡ true) × IsClaimedThroughout settings ssrc newer older

-- The host does not say anew where it expects a source.
abbrev pub IsNotMoved : (ssrc : ℕ) → List GuardStep → Type 0
IsNotMoved ssrc [] = Unit {0}
IsNotMoved ssrc (datagram_came origin moment names goodbye ∷ earlier) = IsNotMoved ssrc earlier
IsNotMoved ssrc (check_made moment silent ∷ earlier) = IsNotMoved ssrc earlier
IsNotMoved ssrc (source_expected other origin moment ∷ earlier) = (other == ssrc ≡ false) × IsNotMoved ssrc earlier
IsNotMoved ssrc (origin_trusted origin ∷ earlier) = IsNotMoved ssrc earlier

-- An origin has a source, keeps it through these steps, and is not said to have lost it.
pub record Keeps (settings : Settings) (ssrc owner : ℕ) (newer older : List GuardStep) : Type 0 where
  pub owns : owner_of settings ssrc older ≡ Some owner
  pub claimed : IsClaimedThroughout settings ssrc newer older
  pub unmoved : IsNotMoved ssrc newer

-- All of these datagrams that are passed on and name a source come from one origin.
abbrev pub AreOf : Settings → (ssrc owner : ℕ) → (newer older : List GuardStep) → Type 0
AreOf settings ssrc owner [] older = Unit {0}
AreOf settings ssrc owner (datagram_came origin moment names goodbye ∷ newer) older =
    (is_named ssrc names ≡ true → is_passed settings origin moment names goodbye (newer ++ older) ≡ true →
    origin ≡ owner)
    × AreOf settings ssrc owner newer older
AreOf settings ssrc owner (check_made moment silent ∷ newer) older = AreOf settings ssrc owner newer older
AreOf settings ssrc owner (source_expected other origin moment ∷ newer) older = AreOf settings ssrc owner newer older
AreOf settings ssrc owner (origin_trusted origin ∷ newer) older = AreOf settings ssrc owner newer older

-- ---- What an origin says

abbrev pub are_among : (few names : List ℕ) → Bool
are_among few names = list_all (λ name. is_named name few) names

-- An origin names only these sources, and is expected to have no other.
abbrev pub NamesOnly : (origin : ℕ) → (few : List ℕ) → List GuardStep → Type 0
NamesOnly origin few [] = Unit {0}
NamesOnly origin few (datagram_came other moment names goodbye ∷ earlier) =
    (other ≡ origin → are_among few names ≡ true) × NamesOnly origin few earlier
NamesOnly origin few (check_made moment silent ∷ earlier) = NamesOnly origin few earlier
NamesOnly origin few (source_expected ssrc other moment ∷ earlier) =
    (other ≡ origin → is_named ssrc few ≡ true) × NamesOnly origin few earlier
NamesOnly origin few (origin_trusted other ∷ earlier) = NamesOnly origin few earlier

-- ---- What others say of a source

-- whether a step is a datagram of another origin that names a source
abbrev pub is_others : (ssrc owner : ℕ) → GuardStep → Bool
is_others ssrc owner (datagram_came origin moment names goodbye) = not (origin == owner) && is_named ssrc names
is_others ssrc owner (check_made moment silent) = false
is_others ssrc owner (source_expected other origin moment) = false
is_others ssrc owner (origin_trusted origin) = false

-- the steps without what other origins said of a source
abbrev pub without : (ssrc owner : ℕ) → List GuardStep → List GuardStep
without ssrc owner [] = []
without ssrc owner (step ∷ earlier) =
    if is_others ssrc owner step then without ssrc owner earlier else step ∷ without ssrc owner earlier

abbrev pub if_passed : Settings → (ssrc : ℕ) → GuardStep → (earlier passed : List GuardStep) → List GuardStep
if_passed settings ssrc (datagram_came origin moment names goodbye) earlier passed =
    if is_named ssrc names && is_passed settings origin moment names goodbye earlier
    then datagram_came origin moment names goodbye ∷ passed else passed
if_passed settings ssrc (check_made moment silent) earlier passed = passed
if_passed settings ssrc (source_expected other origin moment) earlier passed = passed
if_passed settings ssrc (origin_trusted origin) earlier passed = passed

-- The datagrams among these steps that name a source and are passed on: all that the participant is told of it.
abbrev pub passed_about : Settings → (ssrc : ℕ) → (newer older : List GuardStep) → List GuardStep
passed_about settings ssrc [] older = []
passed_about settings ssrc (step ∷ newer) older =
    if_passed settings ssrc step (newer ++ older) (passed_about settings ssrc newer older)

-- ---- Goodbyes in a stretch

-- whether a datagram of an origin that says BYE is passed on
abbrev pub is_goodbye_passed : Settings → (origin : ℕ) → GuardStep → (earlier : List GuardStep) → Bool
is_goodbye_passed settings origin (datagram_came other moment names goodbye) earlier =
    other == origin && is_some (goodbye_among names goodbye) && is_passed settings other moment names goodbye earlier
is_goodbye_passed settings origin (check_made moment silent) earlier = false
is_goodbye_passed settings origin (source_expected ssrc other moment) earlier = false
is_goodbye_passed settings origin (origin_trusted other) earlier = false

-- how many of these steps are datagrams of an origin that say BYE and are passed on
abbrev pub passed_goodbyes : Settings → (origin : ℕ) → (newer older : List GuardStep) → ℕ
passed_goodbyes settings origin [] older = 0
passed_goodbyes settings origin (step ∷ newer) older =
    (if is_goodbye_passed settings origin step (newer ++ older) then 1 else 0)
    + passed_goodbyes settings origin newer older

-- a moment within a hold that begins at another
pub record IsWithinHold (hold first moment : ℕ) : Type 0 where
  pub from : first ≤ moment
  pub until : moment ≤ first + hold

-- All moments of these steps are within a hold.
abbrev pub AreWithinHold : (hold first : ℕ) → List GuardStep → Type 0
AreWithinHold hold first [] = Unit {0}
AreWithinHold hold first (datagram_came origin moment names goodbye ∷ earlier) =
    IsWithinHold hold first moment × AreWithinHold hold first earlier
AreWithinHold hold first (check_made moment silent ∷ earlier) =
    IsWithinHold hold first moment × AreWithinHold hold first earlier
AreWithinHold hold first (source_expected ssrc origin moment ∷ earlier) =
    IsWithinHold hold first moment × AreWithinHold hold first earlier
AreWithinHold hold first (origin_trusted origin ∷ earlier) = AreWithinHold hold first earlier

-- The host expects no source of an origin elsewhere.
abbrev pub LosesNone : Settings → (origin : ℕ) → (newer older : List GuardStep) → Type 0
LosesNone settings origin [] older = Unit {0}
LosesNone settings origin (datagram_came other moment names goodbye ∷ newer) older =
    LosesNone settings origin newer older
LosesNone settings origin (check_made moment silent ∷ newer) older = LosesNone settings origin newer older
LosesNone settings origin (source_expected ssrc other moment ∷ newer) older =
    (owner_of settings ssrc (newer ++ older) ≡ Some origin → other ≡ origin) × LosesNone settings origin newer older
LosesNone settings origin (origin_trusted other ∷ newer) older = LosesNone settings origin newer older
