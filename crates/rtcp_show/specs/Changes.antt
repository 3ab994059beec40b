-- The lines of sources that joined, left, began or ceased to send, as `rtcp listen --show` writes them. `time` is a
-- moment as it is written.
use Rattle.std.specs.Prelude.{◌≡◌, ◌&&◌, ℕ, not, Bool, true, false, if◌then◌else◌, List, [], ◌∷◌, ◌++◌, map, codes, Ok, Err}
use Rattle.std.specs.List.{flat_map}
use Rattle.rtcp_engine.specs.answers.Acts.{EventValue, leave_asked, forget_asked}
use Rattle.rtcp_engine.specs.answers.Histories.{History, life_at, setup_at}
use Rattle.rtcp_engine.specs.answers.Lives.{WalksInLife}
use Rattle.rtcp_guarded.specs.Guarded.{GuardedAnswer}
use Rattle.rtcp_listing.specs.declared.change.Change.{Change}
use Rattle.rtcp_listing.specs.declared.change.Role.TheVariants.{Away, Sender}
use Rattle.rtcp_listing.specs.Differences.{ListedValue, changes, is_gone, is_same, listed_of, rises_from, went_without_bye}
use Rattle.rtcp_members.specs.Listings.{StateValue}
use Rattle.rtcp_text.specs.Text.{hex_word}

-- a moment, a word and a source, where it is so
abbrev pub line_where : Bool → (time word : List ℕ) → (ssrc : ℕ) → List ℕ
line_where so time word ssrc = if so then time ++ word ++ hex_word ssrc ++ 10 ∷ [] else []

abbrev pub change_text : (time : List ℕ) → Change → List ℕ
change_text time change =
    line_where (is_same change.was Away && not (is_same change.is Away)) time (codes " joined=") change.ssrc
    ++ line_where (not (is_same change.was Sender) && is_same change.is Sender) time (codes " began-sending=")
    change.ssrc
    ++ line_where (is_same change.was Sender && not (is_same change.is Sender)) time (codes " stopped-sending=")
    change.ssrc
    ++ line_where (change.has_left && is_gone change) time (codes " bye=") change.ssrc
    ++ line_where (went_without_bye change) time (codes " timed-out=") change.ssrc

-- What changed between two listings, each of which has its sources by rising SSRC, as a session's are told of.
abbrev pub changes_text : (time : List ℕ) → (before after : List ListedValue) → List ℕ
changes_text time before after =
    if rises_from 0 before && rises_from 0 after then flat_map (change_text time) (changes before after) else []

-- ---- When they are told

abbrev pub is_leave : EventValue → Bool
is_leave (leave_asked moment word) = true
is_leave event = false

abbrev pub is_forgetting : EventValue → Bool
is_forgetting (forget_asked moment ssrc) = true
is_forgetting event = false

abbrev pub others_changed_in : GuardedAnswer → Bool
others_changed_in (Ok step) = step.others_changed
others_changed_in (Err untaken) = false

-- The answer says that others changed their roles, by an event after which the participant still lists them: from a
-- leave on it lists nobody, though nobody has gone.
abbrev pub lists_anew : EventValue → GuardedAnswer → Bool
lists_anew event answer = others_changed_in answer && not (is_leave event)

-- Whether lines say who changed. A source that the host forgot has neither timed out nor sent a BYE, and no other
-- changes with it, so nothing is said of it.
abbrev pub shows_others : EventValue → GuardedAnswer → Bool
shows_others event answer = lists_anew event answer && not (is_forgetting event)

-- ---- What is told

abbrev pub shown_changes : (told : Bool) → (time : List ℕ) → (before after : List ListedValue) → List ℕ
shown_changes told time before after = if told then changes_text time before after else []

-- Nothing, where it is not told that others changed; else what changed between an earlier listing and the sources that
-- are there after a history.
abbrev pub ShowsChanges :
    (told : Bool) → (time : List ℕ) → History → (before : List ListedValue) → List ℕ → Type 0
ShowsChanges false time history before text = text ≡ []
ShowsChanges true time history before text =
    (states : List StateValue) × WalksInLife (setup_at history) (life_at history) states
    × (text ≡ changes_text time before (map listed_of states))

-- What is kept of the sources to tell the next changes from: where they are listed anew, those that are there after a
-- history, and else the listing that was kept before.
abbrev pub KeepsListing : (anew : Bool) → History → (before after : List ListedValue) → Type 0
KeepsListing false history before after = after ≡ before
KeepsListing true history before after =
    (states : List StateValue) × WalksInLife (setup_at history) (life_at history) states
    × (after ≡ map listed_of states)
