-- What becomes of each datagram, and what a guard keeps of it (RFC 3550, 8.2).
use Rattle.std.specs.Prelude.{ℕ, ◌==◌, ◌||◌, ◌++◌, ◌+◌, ◌-◌, ◌*◌, ◌^◌, not, min, max, nat_lt, nat_le, ◌&&◌, Bool, List, [], ◌∷◌, length, take, if◌then◌else◌, Option, Some, None, is_some}
use Rattle.std.specs.List.{list_any}
use Rattle.rtcp_guard.specs.Claims.{Claim, with_name, with_names, with_goodbye, goodbye_among, goodbyes_of, after_lapse, is_strange, before_stranger, is_too_many}
use Rattle.rtcp_guard.specs.declared.settings.Settings.{Settings}
use Rattle.rtcp_guard.specs.declared.verdict.HeldBack.{HeldBack}
use Rattle.rtcp_guard.specs.declared.verdict.Verdict.{Verdict}
use Rattle.rtcp_guard.specs.declared.verdict.Verdict.TheVariants.{Pass, Stranger, Crowd}

-- ---- A guard

pub record GuardValue : Type 0 where
  pub settings : Settings
  pub claims : List Claim
  -- the origins with a limit of their own
  pub trusted : List ℕ
  pub held_back : HeldBack

abbrev pub nothing_held_back : HeldBack
nothing_held_back = record { strangers = 0; crowds = 0; last_stranger = None; last_crowd = None }

abbrev pub new_guard : Settings → GuardValue
new_guard settings =
    record { settings = settings; claims = []; trusted = []; held_back = nothing_held_back }

-- ---- Limits

abbrev pub is_trusted : (origin : ℕ) → (trusted : List ℕ) → Bool
is_trusted origin trusted = list_any (λ other. other == origin) trusted

-- how many sources an origin may have
abbrev pub limit_of : (origin : ℕ) → Settings → (trusted : List ℕ) → ℕ
limit_of origin settings trusted =
    if is_trusted origin trusted then max settings.names settings.trusted_names else settings.names

-- How many sources all origins may have: twice as many as the participant's table, since one that left counts for a
-- while.
abbrev pub room_of : Settings → ℕ
room_of settings = 2 * settings.sources

abbrev pub has_too_many : (origin : ℕ) → List Claim → GuardValue → Bool
has_too_many origin claims guard =
    is_too_many (limit_of origin guard.settings guard.trusted) (room_of guard.settings) origin claims

-- ---- Verdicts

-- What becomes of a datagram with these names. It is held back where one of them belongs to another origin, and where
-- its own origin would have too many sources by them. The names before the first that belongs to another origin say
-- which of both is told.
abbrev pub judged : (limit room origin moment : ℕ) → (names : List ℕ) → List Claim → Verdict
judged limit room origin moment names claims =
    if is_too_many limit room origin (with_names origin moment (before_stranger origin names claims) claims) then Crowd
    else (if is_strange origin names claims then Stranger else Pass)

-- what passes is a crowd where there is more than may be
abbrev pub unless_more : (more : Bool) → Verdict → Verdict
unless_more more Pass = if more then Crowd else Pass
unless_more more Stranger = Stranger
unless_more more Crowd = Crowd

-- the verdict by these names alone
abbrev pub verdict_by : (origin moment : ℕ) → (names : List ℕ) → GuardValue → Verdict
verdict_by origin moment names guard =
    judged (limit_of origin guard.settings guard.trusted) (room_of guard.settings) origin moment names guard.claims

-- whether an origin that says BYE has as many goodbyes already as it may have sources
abbrev pub has_left_enough : (origin : ℕ) → (goodbye : Option ℕ) → GuardValue → Bool
has_left_enough origin goodbye guard =
    is_some goodbye && nat_le (limit_of origin guard.settings guard.trusted) (goodbyes_of origin guard.claims)

-- The verdict on a datagram, of which the first 512 names are looked at, and which says BYE of a source first, if it
-- does at all. A BYE of no source that it names is none.
abbrev pub verdict_on : (origin moment : ℕ) → (names : List ℕ) → (goodbye : Option ℕ) → GuardValue → Verdict
verdict_on origin moment names goodbye guard =
    unless_more (nat_lt 512 (length names) || has_left_enough origin (goodbye_among names goodbye) guard)
    (verdict_by origin moment (take 512 names) guard)

-- ---- Steps

pub data GuardStep : Type 0 where
  -- a datagram came: from where, when, the sources that it names, and that of which it says BYE first, if it does
  datagram_came : (origin moment : ℕ) → (names : List ℕ) → (goodbye : Option ℕ) → GuardStep
  -- a check: when, and before which moment the participant's table drops a source that was silent
  check_made : (moment silent : ℕ) → GuardStep
  -- the host expects a source at an origin
  source_expected : (ssrc origin moment : ℕ) → GuardStep
  -- the host trusts an origin with more sources
  origin_trusted : (origin : ℕ) → GuardStep

-- One more is counted, as far as a count of 64 bits goes.
abbrev pub one_more : ℕ → ℕ
one_more count = min (count + 1) (2 ^ 64 - 1)

abbrev pub counted : (origin : ℕ) → Verdict → HeldBack → HeldBack
counted origin Pass held_back = held_back
counted origin Stranger held_back =
    record held_back { strangers = one_more held_back.strangers; last_stranger = Some origin }
counted origin Crowd held_back = record held_back { crowds = one_more held_back.crowds; last_crowd = Some origin }

-- Only what passes claims, and says goodbye.
abbrev pub after_names : (origin moment : ℕ) → (names : List ℕ) → (goodbye : Option ℕ) → Verdict → List Claim →
    List Claim
after_names origin moment names goodbye Pass claims =
    with_goodbye (goodbye_among names goodbye) (with_names origin moment names claims)
after_names origin moment names goodbye Stranger claims = claims
after_names origin moment names goodbye Crowd claims = claims

abbrev pub after_verdict : (origin moment : ℕ) → (names : List ℕ) → (goodbye : Option ℕ) → Verdict → GuardValue →
    GuardValue
after_verdict origin moment names goodbye verdict guard =
    record guard {
      claims = after_names origin moment names goodbye verdict guard.claims;
      held_back = counted origin verdict guard.held_back;
    }

-- The claims lapse whose sources were silent for the hold, and for as long as the participant's table keeps them.
abbrev pub before_which : (moment silent : ℕ) → Settings → ℕ
before_which moment silent settings = min (moment - settings.hold) silent

-- whether an origin may have a source that the host expects of it
abbrev pub may_have : (ssrc origin moment : ℕ) → GuardValue → Bool
may_have ssrc origin moment guard = not (has_too_many origin (with_name origin moment ssrc guard.claims) guard)

-- whether an origin is trusted already, or may be
abbrev pub may_trust : (origin : ℕ) → (trusted : List ℕ) → Bool
may_trust origin trusted = is_trusted origin trusted || nat_lt (length trusted) 16

abbrev pub with_trusted : (origin : ℕ) → (trusted : List ℕ) → List ℕ
with_trusted origin trusted =
    if is_trusted origin trusted || nat_le 16 (length trusted) then trusted else trusted ++ origin ∷ []

abbrev pub after : GuardStep → GuardValue → GuardValue
after (datagram_came origin moment names goodbye) guard =
    after_verdict origin moment names goodbye (verdict_on origin moment names goodbye guard) guard
after (check_made moment silent) guard =
    record guard { claims = after_lapse (before_which moment silent guard.settings) guard.claims }
after (source_expected ssrc origin moment) guard =
    if may_have ssrc origin moment guard then record guard { claims = with_name origin moment ssrc guard.claims }
    else guard
after (origin_trusted origin) guard = record guard { trusted = with_trusted origin guard.trusted }
