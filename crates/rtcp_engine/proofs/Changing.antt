-- What a change of identifier, and other settings, leave of a session.
use Rattle.std.proofs.Common.{◌≡◌, ℕ, List, [], ◌∷◌, Option, Some, None, option_map, refl, ap, ◌∙◌}
use Rattle.std.specs.Option.{option_or}
use Rattle.rtcp_engine.specs.declared.config.ConfigError.{ConfigError}
use Rattle.rtcp_engine.specs.declared.refusal.Refusal.TheVariants.{Settings}
use Rattle.rtcp_engine.specs.answers.Setups.{Setup, SettingsValue, IsUsable, settings_of, with_settings}
use Rattle.rtcp_engine.specs.answers.Acts.{Act, arrived, configured, rtcp, rtp}
use Rattle.rtcp_engine.specs.answers.Leaving.{Life, present, backing_off, finished}
use Rattle.rtcp_engine.specs.answers.Lives.{out_by, own_bye}
use Rattle.rtcp_engine.specs.answers.Changes.{NewIdentifier, Session, change_by, changed_by, changed_to, with_ssrc}
use Rattle.rtcp_engine.specs.answers.Histories.{session_of, setup_after}
use Rattle.rtcp_engine.specs.answers.Answers.{refusal_of_content}
use Rattle.rtcp_engine.specs.bounds.OwnClock.{latest_settings}
use Rattle.rtcp_engine.specs.state.Taken.{AllTaken}
use Rattle.rtcp_engine.proofs.AnswerLemmas.{unrefused}
use Rattle.rtcp_engine.proofs.Usable.{usable_with_settings}

-- ---- Setups

-- a setup that has the identifier and the settings of another one
abbrev named_and_set_as : Setup → Setup → Setup
named_and_set_as other setup = with_ssrc other.ssrc (with_settings (settings_of other) setup)

ssrc_again : (setup : Setup) (session : Session) (change : Option NewIdentifier) →
    session.setup ≡ named_and_set_as session.setup setup →
    (changed_by change session).setup ≡ named_and_set_as (changed_by change session).setup setup
ssrc_again setup session None same = same
ssrc_again setup session (Some new) same = ap (with_ssrc new.ssrc) same

set_again : (setup : Setup) (act : Act) (now : Setup) → now ≡ named_and_set_as now setup →
    setup_after act now ≡ named_and_set_as (setup_after act now) setup
set_again setup (configured moment settings) now same = ap (with_settings settings) same
set_again setup act now same = same

-- The setup of a session is the one it began with, but for the identifier and the settings.
pub same_but_name_and_settings : (setup : Setup) (word : ℕ) (acts : List Act) →
    let now = (session_of setup word acts).setup in now ≡ with_ssrc now.ssrc (with_settings (settings_of now) setup)
same_but_name_and_settings setup word [] = refl
same_but_name_and_settings setup word (act ∷ earlier) =
    let before = session_of setup word earlier in
    let change = change_by before act in
    set_again setup act (changed_by change before).setup
    (ssrc_again setup before change (same_but_name_and_settings setup word earlier))

-- The settings of a session are those that were given last.
pub latest_of : (setup : Setup) (word : ℕ) (acts : List Act) →
    settings_of (session_of setup word acts).setup ≡ latest_settings (settings_of setup) acts
latest_of setup word [] = refl
latest_of setup word (act ∷ earlier) =
    let before = session_of setup word earlier in
    let change = change_by before act in
    by_act act (changed_by change before).setup (by_change before change (latest_of setup word earlier))
  where
    first : SettingsValue
    first = settings_of setup

    by_change : (session : Session) (change : Option NewIdentifier) →
        settings_of session.setup ≡ latest_settings first earlier →
        settings_of (changed_by change session).setup ≡ latest_settings first earlier
    by_change session None same = same
    by_change session (Some new) same = same

    by_act : (act : Act) (now : Setup) → settings_of now ≡ latest_settings first earlier →
        settings_of (setup_after act now) ≡ latest_settings first (act ∷ earlier)
    by_act (configured t settings) now same = refl
    by_act act now same = same

-- A setup under another identifier is as usable.
pub usable_with_ssrc : (ssrc : ℕ) (setup : Setup) → IsUsable setup → IsUsable (with_ssrc ssrc setup)
usable_with_ssrc ssrc setup u = record {
  cname = u.cname;
  capacity = u.capacity;
  limit = u.limit;
  words = u.words;
  for_senders = u.for_senders;
  for_others = u.for_others;
  rate = u.rate;
  clocks = u.clocks;
  few_extras = u.few_extras;
  extras = u.extras;
}

change_usable : (session : Session) (change : Option NewIdentifier) → IsUsable session.setup →
    IsUsable (changed_by change session).setup
change_usable session None usable = usable
change_usable session (Some new) usable = usable_with_ssrc new.ssrc session.setup usable

no_error : (error : Option ConfigError) → option_map Settings error ≡ None → error ≡ None
no_error None none = refl
no_error (Some error) none = absurd cc

-- Settings that are taken leave a setup as usable.
usable_after : (session : Session) (act : Act) (setup : Setup) → IsUsable setup →
    refusal_of_content session act ≡ None → IsUsable (setup_after act setup)
usable_after session (configured moment settings) setup usable none =
    usable_with_settings settings setup usable (no_error _ none)
usable_after session act setup usable none = usable

pub usable_in : (setup : Setup) (word : ℕ) (acts : List Act) → IsUsable setup → AllTaken setup word acts →
    IsUsable (session_of setup word acts).setup
usable_in setup word [] usable taken = usable
usable_in setup word (act ∷ earlier) usable taken =
    let before = session_of setup word earlier in
    let change = change_by before act in
    usable_after before act (changed_by change before).setup
    (change_usable before change (usable_in setup word earlier usable taken.2))
    (unrefused (record { setup = setup; word = word; acts = earlier }) act taken.0).1

-- ---- What is handed out

pub or_none : {A : Type 0} → (found : Option A) → option_or found None ≡ found
or_none {A} None = refl
or_none {A} (Some x) = refl

-- A datagram brings no compound but the one of its change.
pub nothing_more : (session : Session) (act : Act) (new : NewIdentifier) → change_by session act ≡ Some new →
    (setup : Setup) (life : Life) → out_by setup act life ≡ None
nothing_more session (arrived moment peer word datagram) new is setup (present outcome) = refl
nothing_more session (arrived moment peer word (rtcp size reading)) new is setup (backing_off outcome backoff) = refl
nothing_more session (arrived moment peer word (rtp reading)) new is setup (backing_off outcome backoff) = refl
nothing_more session act new is setup (finished outcome) = refl
nothing_more session act new is setup life = absurd cc

pub bye_alone : (session : Session) (act : Act) (new : NewIdentifier) → change_by session act ≡ Some new →
    let now = changed_to new session in
    option_or (own_bye session.setup session.life) (out_by now.setup act now.life) ≡ own_bye session.setup session.life
bye_alone session act new is =
    let now = changed_to new session in
    let bye = own_bye session.setup session.life in
    ap (option_or bye) (nothing_more session act new is now.setup now.life) ∙ or_none bye
