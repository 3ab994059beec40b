-- What a change of identifier leaves as it was.
use Rattle.std.proofs.Common.{◌≡◌, ℕ, Bool, true, false, ◌∷◌, length, Option, Some, None, if◌then◌else◌, refl, ap}
use Rattle.rtcp_engine.specs.answers.Acts.{Act}
use Rattle.rtcp_engine.specs.answers.OwnStreams.{has_sent}
use Rattle.rtcp_engine.specs.answers.Reporting.{bye_octets}
use Rattle.rtcp_engine.specs.answers.Leaving.{Backoff, Life, present, backing_off, finished, leaving_count, leaving_timing}
use Rattle.rtcp_engine.specs.answers.Changes.{NewIdentifier, Session, change_by, changed_by, changed_to, with_ssrc}
use Rattle.rtcp_engine.specs.bounds.Changed.{KeepsRest}

-- ---- The BYE of the old identifier

abbrev pub with_bye : (heard : Bool) (size : ℕ) → Backoff → Backoff
with_bye heard size backoff = if heard then record
    backoff { bye_compounds = record { byes = 0; size = size } ∷ backoff.bye_compounds } else backoff

pub bye_keeps_count : (heard : Bool) (size : ℕ) (backoff : Backoff) →
    leaving_count (with_bye heard size backoff) ≡ leaving_count backoff
bye_keeps_count true size backoff = refl
bye_keeps_count false size backoff = refl

pub bye_keeps_timing : (heard : Bool) (size : ℕ) (backoff : Backoff) →
    leaving_timing (with_bye heard size backoff) ≡ leaving_timing backoff
bye_keeps_timing true size backoff = refl
bye_keeps_timing false size backoff = refl

-- ---- What stays

renamed_rest : (new : NewIdentifier) (session : Session) (life : Life) → session.life ≡ life →
    KeepsRest (record session { life = life }) (changed_to new (record session { life = life }))
renamed_rest new session (present outcome) is = search
renamed_rest new session (backing_off outcome backoff) is = record {
  settings = refl;
  table = λ ssrc. refl;
  held = λ ssrc. refl;
  members = bye_keeps_count (has_sent outcome.own) (length (bye_octets session.setup)) backoff;
  senders = refl;
  entries = refl;
  timing = ap Some (bye_keeps_timing (has_sent outcome.own) (length (bye_octets session.setup)) backoff);
}
renamed_rest new session (finished outcome) is = search

-- A change of identifier leaves settings, table, counts and schedule as they were.
rest_of_change : (session : Session) (change : Option NewIdentifier) → KeepsRest session (changed_by change session)
rest_of_change session None = search
rest_of_change session (Some new) = renamed_rest new session session.life refl

pub rest_stays : (session : Session) (act : Act) → KeepsRest session (changed_by (change_by session act) session)
rest_stays session act = rest_of_change session (change_by session act)

pub ssrc_alone : (session : Session) (act : Act) (new : NewIdentifier) → change_by session act ≡ Some new →
    (changed_by (change_by session act) session).setup ≡ with_ssrc new.ssrc session.setup
ssrc_alone session act new is = ap (λ (change : Option NewIdentifier). (changed_by change session).setup) is
