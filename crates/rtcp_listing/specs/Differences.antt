-- What changed between two listings of the sources of a session.
use Rattle.std.specs.Prelude.{ℕ, ◌≡◌, ◌<◌, ◌==◌, ◌&&◌, ◌++◌, ◌+◌, length, suc, nat_lt, not, Bool, true, false, List, [], ◌∷◌, filter, map, Option, Some, None, option_map, unwrap_or, is_some, if◌then◌else◌}
use Rattle.rtcp_members.specs.Listings.{StateValue}
use Rattle.rtcp_listing.specs.declared.change.Role.{Role}
use Rattle.rtcp_listing.specs.declared.change.Role.TheVariants.{Away, Member, Sender}
use Rattle.rtcp_listing.specs.declared.change.Change.{Change}

-- ---- Listings

-- What a listing says of a source.
pub record ListedValue : Type 0 where
  pub ssrc : ℕ
  pub role : Role
  -- whether it sent a BYE
  pub left : Bool

-- one that is not a member does not take part, though it is present
abbrev pub role_of : (member sender : Bool) → Role
role_of member sender = if member then (if sender then Sender else Member) else Away

abbrev pub listed_of : StateValue → ListedValue
listed_of state =
    record { ssrc = state.ssrc; role = role_of state.member state.sender; left = is_some state.left }

-- Its sources stand by rising SSRC, none of which is below `low`.
abbrev pub rises_from : (low : ℕ) → List ListedValue → Bool
rises_from low [] = true
rises_from low (source ∷ rest) = not (nat_lt source.ssrc low) && rises_from (suc source.ssrc) rest

abbrev pub found_in : List ListedValue → (ssrc : ℕ) → Option ListedValue
found_in [] ssrc = None
found_in (source ∷ rest) ssrc = if source.ssrc == ssrc then Some source else found_in rest ssrc

abbrev pub role_in : List ListedValue → (ssrc : ℕ) → Role
role_in listing ssrc = unwrap_or (option_map (λ (source : ListedValue). source.role) (found_in listing ssrc)) Away

abbrev pub has_left_in : List ListedValue → (ssrc : ℕ) → Bool
has_left_in listing ssrc =
    unwrap_or (option_map (λ (source : ListedValue). source.left) (found_in listing ssrc)) false

-- ---- Changes

abbrev pub is_same : Role → Role → Bool
is_same Away Away = true
is_same Away Member = false
is_same Away Sender = false
is_same Member Away = false
is_same Member Member = true
is_same Member Sender = false
is_same Sender Away = false
is_same Sender Member = false
is_same Sender Sender = true

-- What two listings, of which the second is the later one, say of a source.
abbrev pub compared : (before after : List ListedValue) → (ssrc : ℕ) → Change
compared before after ssrc =
    record {
      ssrc = ssrc;
      was = role_in before ssrc;
      is = role_in after ssrc;
      has_left = has_left_in after ssrc;
    }

abbrev pub is_change : Change → Bool
is_change change = not (is_same change.was change.is)

-- The source took part, and does no longer.
abbrev pub is_gone : Change → Bool
is_gone change = not (is_same change.was Away) && is_same change.is Away

abbrev pub went_without_bye : Change → Bool
went_without_bye change = not change.has_left && is_gone change

-- a number put among rising ones, once
abbrev pub put : ℕ → List ℕ → List ℕ
put n [] = n ∷ []
put n (first ∷ rest) =
    if nat_lt n first then n ∷ first ∷ rest else (if n == first then first ∷ rest else first ∷ put n rest)

-- numbers by rising value, each once
abbrev pub by_rising : List ℕ → List ℕ
by_rising [] = []
by_rising (n ∷ rest) = put n (by_rising rest)

abbrev pub ssrcs : List ListedValue → List ℕ
ssrcs listing = map (λ (source : ListedValue). source.ssrc) listing

-- All sources of either listing, by rising SSRC, each once.
abbrev pub all_compared : (before after : List ListedValue) → List Change
all_compared before after = map (compared before after) (by_rising (ssrcs before ++ ssrcs after))

-- Those of them whose roles differ.
abbrev pub changes : (before after : List ListedValue) → List Change
changes before after = filter is_change (all_compared before after)

-- The roles that result from earlier ones by changes, one after the other.
abbrev pub changed : List Change → (roles : ℕ → Role) → (ssrc : ℕ) → Role
changed [] roles ssrc = roles ssrc
changed (change ∷ rest) roles ssrc =
    changed rest (λ (other : ℕ). if change.ssrc == other then change.is else roles other) ssrc

-- They stand by rising SSRC, none of which is below `low`.
abbrev pub changes_rise_from : (low : ℕ) → List Change → Bool
changes_rise_from low [] = true
changes_rise_from low (change ∷ rest) = not (nat_lt change.ssrc low) && changes_rise_from (suc change.ssrc) rest

-- ---- What one source takes from two listings

abbrev pub least_first : (before after : List ListedValue) → Option ℕ
least_first [] [] = None
least_first [] (new ∷ after) = Some new.ssrc
least_first (old ∷ before) [] = Some old.ssrc
least_first (old ∷ before) (new ∷ after) =
    Some (if nat_lt new.ssrc old.ssrc then new.ssrc else old.ssrc)

-- what is said of a source by a listing that it stands first in, or not in
abbrev pub first_role : List ListedValue → (ssrc : ℕ) → Role
first_role [] ssrc = Away
first_role (source ∷ rest) ssrc = if source.ssrc == ssrc then source.role else Away

abbrev pub first_left : List ListedValue → (ssrc : ℕ) → Bool
first_left [] ssrc = false
first_left (source ∷ rest) ssrc = if source.ssrc == ssrc then source.left else false

abbrev pub without_first : List ListedValue → (ssrc : ℕ) → List ListedValue
without_first [] ssrc = []
without_first (source ∷ rest) ssrc = if source.ssrc == ssrc then rest else source ∷ rest

-- A change, or none, is what two listings say of the source of least SSRC in either, and the other two listings are
-- these without that source.
pub record IsFirst (before after : List ListedValue) (change : Change) (old new : List ListedValue) : Type 0 where
  pub before_rises : rises_from 0 old ≡ true
  pub after_rises : rises_from 0 new ≡ true
  pub fewer : length old + length new < length before + length after
  pub left : changes before after ≡ (if is_change change then change ∷ changes old new else changes old new)
