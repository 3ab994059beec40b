-- What the participant tells of a source, by its SSRC.
use Rattle.std.specs.Prelude.{ℕ, Bool, true, false, List, [], ◌∷◌, if◌then◌else◌, nat_eq, is_some, Option, Some, None, option_map}
use Rattle.std.specs.Option.{option_or}
use Rattle.rtcp_engine.specs.answers.Histories.{History, life_at, setup_at}
use Rattle.rtcp_engine.specs.answers.Leaving.{Life, present, backing_off, finished}
use Rattle.rtcp_engine.specs.answers.Setups.{Setup}
use Rattle.rtcp_members.specs.Present.{stay_of}
use Rattle.rtcp_members.specs.Listings.{StateValue, state_in_stay}

abbrev pub takes_part : Life → Bool
takes_part (present outcome) = true
takes_part (backing_off outcome backoff) = false
takes_part (finished outcome) = false

-- what is told of a source, if it is listed: of nobody from a leave on
abbrev pub state_in_life : Setup → Life → (ssrc : ℕ) → Option StateValue
state_in_life setup (present outcome) ssrc =
    option_map (state_in_stay ssrc) (stay_of setup.capacity outcome.trace ssrc)
state_in_life setup (backing_off outcome backoff) ssrc = None
state_in_life setup (finished outcome) ssrc = None

abbrev pub state_at : History → (ssrc : ℕ) → Option StateValue
state_at history ssrc = state_in_life (setup_at history) (life_at history) ssrc

-- whether it is listed
abbrev pub lists : History → (ssrc : ℕ) → Bool
lists history ssrc = is_some (state_at history ssrc)

-- what is kept of a source, which is changed only where it is listed
abbrev pub if_listed : {A : Type 0} → (listed : Bool) → (change : A → A) → A → A
if_listed listed change kept = if listed then change kept else kept

-- what a listing has of a source, if it is there
abbrev pub state_in : List StateValue → (ssrc : ℕ) → Option StateValue
state_in [] ssrc = None
state_in (state ∷ states) ssrc = option_or (state_in states ssrc) (if nat_eq state.ssrc ssrc then Some state else None)
