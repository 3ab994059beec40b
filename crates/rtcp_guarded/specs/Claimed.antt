-- Histories over which each source that is present is claimed at the guard. Lists are newest first.
use Rattle.std.specs.Prelude.{ℕ, ◌≡◌, ◌≤◌, ◌==◌, ◌++◌, Bool, true, false, List, [], ◌∷◌, Option, None, is_some}
use Rattle.rtcp_guard.specs.Claims.{is_named}
use Rattle.rtcp_guard.specs.Histories.{owner_of}
use Rattle.rtcp_guard.specs.declared.verdict.Verdict.TheVariants.{Pass}
use Rattle.rtcp_guard.specs.Guarding.{GuardStep, datagram_came, check_made, source_expected, origin_trusted}
use Rattle.rtcp_engine.specs.answers.Acts.{Act, arrived}
use Rattle.rtcp_engine.specs.answers.Histories.{life_at, setup_at}
use Rattle.rtcp_engine.specs.answers.Lives.{entry_in_life}
use Rattle.rtcp_engine.specs.answers.Answers.{refusal_after}
use Rattle.rtcp_engine.specs.state.Taken.{IsHistory, NamesFew}
use Rattle.rtcp_guarded.specs.Guarded.{GuardedAct, GuardedHistory, told, expected, trusted, course_at, names_for, origin_of, passed_at, verdict_in}

-- whether the participant has an entry of a source, which it tells of
abbrev pub is_present : (ssrc : ℕ) → GuardedHistory → Bool
is_present ssrc history = is_some (entry_in_life (setup_at (passed_at history)) (life_at (passed_at history)) ssrc)

-- the origin that a source belongs to at the guard
abbrev pub owner_at : (ssrc : ℕ) → GuardedHistory → Option ℕ
owner_at ssrc history = owner_of history.settings ssrc (course_at history).steps

-- ---- Moments

-- the moment of the newest datagram that the guard judged, or of what the host expected since
abbrev pub newest_moment : List GuardStep → ℕ
newest_moment [] = 0
newest_moment (datagram_came origin moment names goodbye ∷ earlier) = moment
newest_moment (check_made moment silent ∷ earlier) = newest_moment earlier
newest_moment (source_expected ssrc origin moment ∷ earlier) = moment
newest_moment (origin_trusted origin ∷ earlier) = newest_moment earlier

-- The host's clock does not go back, neither from what is held back nor to what the host expects. (It never does to
-- what the participant takes.)
abbrev pub AreInOrder : List GuardStep → Type 0
AreInOrder [] = Unit {0}
AreInOrder (datagram_came origin moment names goodbye ∷ earlier) =
    (newest_moment earlier ≤ moment) × AreInOrder earlier
AreInOrder (check_made moment silent ∷ earlier) = AreInOrder earlier
AreInOrder (source_expected ssrc origin moment ∷ earlier) = (newest_moment earlier ≤ moment) × AreInOrder earlier
AreInOrder (origin_trusted origin ∷ earlier) = AreInOrder earlier

-- No datagram names more SSRCs than its octets have room for.
abbrev pub AllNameFew : List GuardedAct → Type 0
AllNameFew [] = Unit {0}
AllNameFew (told (arrived moment peer word datagram) ∷ earlier) = NamesFew datagram × AllNameFew earlier
AllNameFew (act ∷ earlier) = AllNameFew earlier

-- A history that a guarded participant can have whose host's clock does not go back.
pub record IsForward (history : GuardedHistory) : Type 0 where
  pub passed : IsHistory (passed_at history)
  pub few : AllNameFew history.acts
  pub order : AreInOrder (course_at history).steps

-- ---- Stretches of a history: of these acts the newest stand first, and they follow an older history

abbrev pub followed : GuardedHistory → (newer : List GuardedAct) → GuardedHistory
followed older newer = record older { acts = newer ++ older.acts }

-- A source is present before these acts and after each of them.
abbrev pub IsPresentThroughout : (ssrc : ℕ) → (newer : List GuardedAct) → (older : GuardedHistory) → Type 0
IsPresentThroughout ssrc [] older = is_present ssrc older ≡ true
IsPresentThroughout ssrc (act ∷ newer) older =
    (is_present ssrc (followed older (act ∷ newer)) ≡ true) × IsPresentThroughout ssrc newer older

-- The host does not say anew where it expects a source.
abbrev pub IsNotMoved : (ssrc : ℕ) → List GuardedAct → Type 0
IsNotMoved ssrc [] = Unit {0}
IsNotMoved ssrc (told act ∷ newer) = IsNotMoved ssrc newer
IsNotMoved ssrc (expected other origin moment ∷ newer) = (other == ssrc ≡ false) × IsNotMoved ssrc newer
IsNotMoved ssrc (trusted origin ∷ newer) = IsNotMoved ssrc newer

-- A datagram that comes after a history is passed on and taken, and names a source.
pub record IsTaken (ssrc : ℕ) (history : GuardedHistory) (act : Act) (names : List ℕ) : Type 0 where
  pub unrefused : refusal_after (passed_at history) act ≡ None
  pub passes : verdict_in history.settings (course_at history) act ≡ Pass
  pub names_it : is_named ssrc names ≡ true

-- All of these datagrams that are taken and name a source come from one origin.
abbrev pub AllFrom : (ssrc owner : ℕ) → (newer : List GuardedAct) → (older : GuardedHistory) → Type 0
AllFrom ssrc owner [] older = Unit {0}
AllFrom ssrc owner (told (arrived moment peer word datagram) ∷ newer) older =
    let before = followed older newer in
    let act = arrived moment peer word datagram in
    (IsTaken ssrc before act (names_for (passed_at before) act datagram) → origin_of peer ≡ owner)
    × AllFrom ssrc owner newer older
AllFrom ssrc owner (act ∷ newer) older = AllFrom ssrc owner newer older

-- ---- What is held back

-- A datagram that comes after a history is held back: the participant would take it, and the guard does not pass it on.
abbrev pub IsHeldBack : GuardedHistory → Act → Type 0
IsHeldBack history act =
    (refusal_after (passed_at history) act ≡ None)
    × (verdict_in history.settings (course_at history) act ≡ Pass → ⊥)
