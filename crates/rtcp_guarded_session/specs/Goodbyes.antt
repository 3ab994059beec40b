-- Departures at a guarded participant, by where they come from (RFC 3550, 6.3.4 and 8.2). Lists are newest first;
-- moments are in microseconds.
use Rattle.std.specs.Prelude.{ℕ, ◌≡◌, ◌+◌, ◌≤◌, ◌==◌, ◌&&◌, not, nat_lt, nat_le, Bool, false, List, [], ◌∷◌, if◌then◌else◌, Some, None}
use Rattle.std.specs.List.{list_any, sum_by}
use Rattle.rtcp_engine.specs.answers.Setups.{Setup}
use Rattle.rtcp_engine.specs.answers.Acts.{Act, arrived, moment_of}
use Rattle.rtcp_engine.specs.answers.Histories.{History, last_moment}
use Rattle.rtcp_engine.specs.answers.Answers.{refusal_after}
use Rattle.rtcp_engine.specs.state.Taken.{IsHistory}
use Rattle.rtcp_guard.specs.Guarding.{limit_of}
use Rattle.rtcp_guard.specs.Histories.{IsWithinHold}
use Rattle.rtcp_guarded.specs.Claimed.{AllNameFew, followed, owner_at}
use Rattle.rtcp_guarded.specs.Guarded.{GuardedAct, GuardedHistory, told, expected, trusted, guard_at, origin_of, passed_at}
use Rattle.rtcp_session.specs.Departures.{is_departure_after}

-- ---- Departures by their origin

-- whether an act is a datagram of an origin
abbrev pub is_from : (origin : ℕ) → Act → Bool
is_from origin (arrived moment peer word datagram) = origin_of peer == origin
is_from origin act = false

-- whether it is a datagram of one of these origins
abbrev pub is_from_any : (origins : List ℕ) → Act → Bool
is_from_any origins act = list_any (λ origin. is_from origin act) origins

-- how many departures by acts that pass a test lie after one moment, and not after another
abbrev pub departures_by : (test : Act → Bool) → Setup → (word from until : ℕ) → List Act → ℕ
departures_by test setup word from until [] = 0
departures_by test setup word from until (act ∷ earlier) =
    let departs = is_departure_after (record { setup = setup; word = word; acts = earlier }) act in
    (if departs && (nat_lt from (moment_of act) && nat_le (moment_of act) until) && test act then 1 else 0)
    + departures_by test setup word from until earlier

-- how many of them are by datagrams of an origin: members that say BYE there
abbrev pub departures_from : (origin from until : ℕ) → History → ℕ
departures_from origin from until history =
    departures_by (is_from origin) history.setup history.word from until history.acts

-- How many of them are by no datagram of these origins: time-outs, sources that the host says are gone, and BYEs that
-- come from elsewhere.
abbrev pub other_departures : (origins : List ℕ) → (from until : ℕ) → History → ℕ
other_departures origins from until history =
    departures_by (λ act. not (is_from_any origins act)) history.setup history.word from until history.acts

-- how many sources these origins may have together
abbrev pub sources_allowed : (origins : List ℕ) → GuardedHistory → ℕ
sources_allowed origins history =
    sum_by (λ origin. limit_of origin history.settings (guard_at history).trusted) origins

-- ---- Stretches of a history: of these acts the newest stand first, and they follow an older history

-- What these acts bring lies within a hold from a moment on. What the participant refuses brings nothing.
abbrev pub AreWithinHold : (from : ℕ) → (newer : List GuardedAct) → (older : GuardedHistory) → Type 0
AreWithinHold from [] older = Unit {0}
AreWithinHold from (told act ∷ newer) older =
    (refusal_after (passed_at (followed older newer)) act ≡ None →
    IsWithinHold older.settings.hold from (moment_of act))
    × AreWithinHold from newer older
AreWithinHold from (expected ssrc origin moment ∷ newer) older =
    IsWithinHold older.settings.hold from moment × AreWithinHold from newer older
AreWithinHold from (trusted origin ∷ newer) older = AreWithinHold from newer older

-- The host expects no source of an origin elsewhere.
abbrev pub LosesNone : (origin : ℕ) → (newer : List GuardedAct) → (older : GuardedHistory) → Type 0
LosesNone origin [] older = Unit {0}
LosesNone origin (told act ∷ newer) older = LosesNone origin newer older
LosesNone origin (expected ssrc other moment ∷ newer) older =
    (owner_at ssrc (followed older newer) ≡ Some origin → other ≡ origin) × LosesNone origin newer older
LosesNone origin (trusted other ∷ newer) older = LosesNone origin newer older

-- A stretch of a history that a participant can have: what it took before came by a moment, and what these acts bring
-- comes from that moment on, and within the hold.
pub record IsStretch (from : ℕ) (newer : List GuardedAct) (older : GuardedHistory) : Type 0 where
  pub passed : IsHistory (passed_at (followed older newer))
  pub few : AllNameFew newer
  pub begins : last_moment (passed_at older).acts ≤ from
  pub within : AreWithinHold from newer older
