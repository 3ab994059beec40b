-- A participant that takes an act: in each phase, and in a history.
use Rattle.std.proofs.Common.{◌≡◌, ℕ, ◌+◌, Bool, false, List, Option, Some, None, option_map, Result, Ok, Err, refl, sym, ap, ◌∙◌, subst, arith}
use Rattle.std.specs.Option.{option_or}
use Rattle.rtcp_engine.specs.declared.changes.IdentifierChange.{IdentifierChange}
use Rattle.rtcp_engine.specs.declared.pace.Pace.{Pace}
use Rattle.rtcp_engine.specs.declared.refusal.Refusal.{Refusal}
use Rattle.rtcp_engine.specs.declared.step.Step.{Step}
use Rattle.rtcp_engine.specs.declared.step.WrittenStep.{WrittenStep}
use Rattle.rtcp_engine.specs.declared.step.Written.{Written}
use Rattle.rtcp_engine.specs.answers.Setups.{Setup, SettingsValue}
use Rattle.rtcp_engine.specs.answers.Acts.{Act, EventValue, IsActOfEvent, configured, moment_of, AnswerValue, OutValue, StepValue, answer_unless}
use Rattle.rtcp_engine.specs.answers.Leaving.{Backoff, Life, present, backing_off, finished, leaving_count}
use Rattle.rtcp_engine.specs.answers.Lives.{lived, others_moved_by, others_moved_into, out_by, out_while_backing_off, out_while_present, step_into, while_backing_off, while_present}
use Rattle.rtcp_engine.specs.answers.Outcomes.{Outcome}
use Rattle.rtcp_engine.specs.answers.Changes.{NewIdentifier, Session, bye_of_change, change_by, changed_by}
use Rattle.rtcp_engine.specs.answers.Histories.{History, life_at, session_at, setup_after, setup_at, with_act}
use Rattle.rtcp_engine.specs.answers.Answers.{answer_of, followed_by, step_by, refusal_after, refusal_of_content}
use Rattle.rtcp_engine.specs.state.Promises.{Answers, Replies, SaysStanding, Spares, Takes as Promised}
use Rattle.rtcp_engine.specs.bounds.Runs.{IsAnsweredInTime}
use Rattle.rtcp_engine.specs.state.States.{State, Acts, Agrees, Does, StandsStill, IsAt, IsIn, IsPaceOf, MovesOthers, Stays, ParticipantValue, PhaseValue, StandsAt, Waits, called, leaving, over, refusal_by, taking_part, with_settings_in, KeepsCapacity}
use Rattle.rtcp_engine.specs.state.Taken.{HasWords}
use Rattle.rtcp_engine.specs.state.Views.{LeavesRest, answer_value, reply_value, written_step_value}
use Rattle.rtcp_engine.proofs.Agreeing.{calls_agree, with_own}
use Rattle.rtcp_engine.proofs.LifeLemmas.{is_taking_part, is_leaving, leaving_members}
use Rattle.rtcp_engine.proofs.AnswerLemmas.{refusal_is, refused_answer, taken_history, whole_refused}
use Rattle.rtcp_engine.proofs.RolesChanged.{none_since}
use Rattle.rtcp_engine.proofs.Waiting.{answered_in_time}

-- ---- Phases

pub at_present : (p : ParticipantValue) → p.phase ≡ taking_part → (P : Life → Type 0) →
    ((outcome : Outcome) → Agrees p.presence outcome → P (present outcome)) → (life : Life) → IsAt p life → P life
at_present p phase P here (present outcome) at = here outcome at.1
at_present p phase P here (backing_off outcome backoff) at =
    absurd (cc (sym (ap is_taking_part at.0) ∙ ap is_taking_part phase))
at_present p phase P here (finished outcome) at = absurd (cc (sym (ap is_taking_part at) ∙ ap is_taking_part phase))

pub at_backing_off : (p : ParticipantValue) → (members : ℕ) → p.phase ≡ leaving members → (P : Life → Type 0)
    → ((outcome : Outcome) (backoff : Backoff) → Waits p.presence outcome backoff → members ≡ leaving_count backoff →
    P (backing_off outcome backoff)) → (life : Life) → IsAt p life → P life
at_backing_off p members phase P here (present outcome) at =
    absurd (cc (sym (ap is_leaving at.0) ∙ ap is_leaving phase))
at_backing_off p members phase P here (backing_off outcome backoff) at = here outcome backoff at.1
    (sym (ap leaving_members phase) ∙ ap leaving_members at.0)
at_backing_off p members phase P here (finished outcome) at = absurd (cc (sym (ap is_leaving at) ∙ ap is_leaving phase))

pub at_gone : (p : ParticipantValue) → p.phase ≡ over → (P : Life → Type 0) →
    ((outcome : Outcome) → P (finished outcome)) →
    (life : Life) → IsAt p life → P life
at_gone p phase P here (present outcome) at = absurd (cc (sym (ap is_taking_part at.0) ∙ ap is_taking_part phase))
at_gone p phase P here (backing_off outcome backoff) at = absurd (cc (sym (ap is_leaving at.0) ∙ ap is_leaving phase))
at_gone p phase P here (finished outcome) at = here outcome

-- what is said of the life of one that takes part, by its parts inside
pub said_at : {p w : ParticipantValue} → p ≡ w → p.phase ≡ taking_part → (P : Setup → Life → Type 0) →
    ((outcome : Outcome) → Agrees p.presence outcome → P p.presence.setup (present outcome)) → (life : Life) →
    IsAt w life → P w.presence.setup life
said_at {p} {w} is phase P here life at = subst (λ (x : ParticipantValue). P x.presence.setup life) is
    (at_present p phase (P p.presence.setup) here life (subst (λ (x : ParticipantValue). IsAt x life) (sym is) at))

-- the same of the life that its history makes
pub said_present : {p w : ParticipantValue} → p ≡ w → p.phase ≡ taking_part → (P : Setup → Life → Type 0) →
    ((outcome : Outcome) → Agrees p.presence outcome → P p.presence.setup (present outcome)) → (h : History) →
    StandsAt w h → P (setup_at h) (life_at h)
said_present {p} {w} is phase P here h stands = subst (λ (setup : Setup). P setup (life_at h)) stands.session.setup
    (said_at is phase P here (life_at h) stands.session.life)

-- what is known of the parts inside is known of those outside
pub outside : {p w q : ParticipantValue} {act : Act} {out : Option OutValue} {moved : Bool} → p ≡ w →
    Acts p q act out moved → Acts w q act out moved
outside {p} {w} {q} {act} {out} {moved} is acts = subst (λ (x : ParticipantValue). Acts x q act out moved) is acts

-- the same of an act that tells the moment of the latest call
pub outside_at : {p w q : ParticipantValue} {out : Option OutValue} {moved : Bool} (act : ParticipantValue → Act) →
    p ≡ w → Acts p q (act p) out moved → Acts w q (act w) out moved
outside_at {p} {w} {q} {out} {moved} act is = subst (λ (x : ParticipantValue). Acts x q (act x) out moved) is

pub same_stays : (s : State) → Stays s s
same_stays s = record { setup = refl; latest = refl; calls = refl }

-- an act that gives no settings
abbrev pub IsPlain : Act → Type 0
IsPlain act = (setup : Setup) → setup_after act setup ≡ setup

setup_stays : (act : Act) {old new : State} → IsPlain act → Stays old new → new.setup ≡ setup_after act old.setup
setup_stays act {old} {new} plain stays = stays.setup ∙ sym (plain old.setup)

-- what one does that takes part
pub acts_from_present : {p q : ParticipantValue} {act : Act} {out : Option OutValue} {moved : Bool} → IsPlain act →
    p.phase ≡ taking_part → Stays p.presence q.presence → q.changes ≡ p.changes
    → ((outcome : Outcome) → Agrees p.presence outcome → IsAt q (while_present p.presence.setup act outcome)) →
    ((outcome : Outcome) → Agrees p.presence outcome → out ≡ out_while_present p.presence.setup act outcome)
    → ((outcome : Outcome) → Agrees p.presence outcome → moved ≡ others_moved_into p.presence.setup outcome
    (while_present p.presence.setup act outcome)) → Acts p q act out moved
acts_from_present {p} {q} {act} {out} {moved} plain phase stays changes lives outs others = record {
  setup = setup_stays act plain stays;
  latest = stays.latest;
  calls = stays.calls;
  changes = changes;
  lives = at_present p phase (λ life. IsAt q (lived p.presence.setup act life)) lives;
  hands_out = at_present p phase (λ life. out ≡ out_by p.presence.setup act life) outs;
  others = at_present p phase (λ life. moved ≡ others_moved_by p.presence.setup act life) others;
}

-- what one that goes on taking part does, by its step
pub acts_present : {p q : ParticipantValue} {act : Act} {out : Option OutValue} {moved : Bool} {step : Setup → Outcome →
    Outcome} → IsPlain act → p.phase ≡ taking_part → q.phase ≡ taking_part → q.changes ≡ p.changes →
    Does p.presence q.presence step
    → ((setup : Setup) (outcome : Outcome) → while_present setup act outcome ≡ present (step setup outcome)) →
    ((outcome : Outcome) → Agrees p.presence outcome → out ≡ out_while_present p.presence.setup act outcome) →
    MovesOthers p.presence moved step → Acts p q act out moved
acts_present {p} {q} {act} {out} {moved} {step} plain phase new_phase changes does lives outs moves =
    acts_from_present plain phase does.stays changes
    (λ outcome agrees. subst (IsAt q) (sym (lives p.presence.setup outcome))
    (new_phase, does.follows outcome agrees)) outs
    (λ outcome agrees. moves outcome agrees ∙ ap (others_moved_into p.presence.setup outcome)
    (sym (lives p.presence.setup outcome)))

-- what one does that backs off
pub acts_from_backoff : {p q : ParticipantValue} {act : Act} {out : Option OutValue} → IsPlain act → (members : ℕ) →
    p.phase ≡ leaving members → Stays p.presence q.presence → q.changes ≡ p.changes
    → ((outcome : Outcome) (backoff : Backoff) → Waits p.presence outcome backoff → members ≡ leaving_count backoff →
    IsAt q (while_backing_off p.presence.setup act outcome backoff))
    → ((outcome : Outcome) (backoff : Backoff) → Waits p.presence outcome backoff → members ≡ leaving_count backoff →
    out ≡ out_while_backing_off p.presence.setup act outcome backoff) → Acts p q act out false
acts_from_backoff {p} {q} {act} {out} plain members phase stays changes lives outs = record {
  setup = setup_stays act plain stays;
  latest = stays.latest;
  calls = stays.calls;
  changes = changes;
  lives = at_backing_off p members phase (λ life. IsAt q (lived p.presence.setup act life)) lives;
  hands_out = at_backing_off p members phase (λ life. out ≡ out_by p.presence.setup act life) outs;
  others = at_backing_off p members phase (λ life. false ≡ others_moved_by p.presence.setup act life)
      (λ outcome backoff waits count. refl);
}

-- what one that backs off passes by
pub acts_passing : {q p : ParticipantValue} {act : Act} → IsPlain act → (members : ℕ) → q ≡ p →
    q.phase ≡ leaving members → ((setup : Setup) (outcome : Outcome) (backoff : Backoff) →
    while_backing_off setup act outcome backoff ≡ backing_off outcome backoff)
    → ((setup : Setup) (outcome : Outcome) (backoff : Backoff) → out_while_backing_off setup act outcome backoff ≡ None)
    → Acts p p act None false
acts_passing {q} {p} {act} plain members is at_phase lives outs =
    let phase : p.phase ≡ leaving members = sym (ap (λ (x : ParticipantValue). x.phase) is) ∙ at_phase in
    acts_from_backoff plain members phase (same_stays p.presence) refl
    (λ outcome backoff waits count. subst (IsAt p) (sym (lives p.presence.setup outcome backoff))
    (phase ∙ ap leaving count, waits))
    (λ outcome backoff waits count. sym (outs p.presence.setup outcome backoff))

pub acts_gone : {q p : ParticipantValue} {act : Act} → IsPlain act → q ≡ p → q.phase ≡ over → Acts p p act None false
acts_gone {q} {p} {act} plain is at_phase =
    let phase : p.phase ≡ over = sym (ap (λ (x : ParticipantValue). x.phase) is) ∙ at_phase in
    record {
      setup = setup_stays act plain (same_stays p.presence);
      latest = refl;
      calls = refl;
      changes = refl;
      lives = at_gone p phase (λ life. IsAt p (lived p.presence.setup act life)) (λ outcome. phase);
      hands_out = at_gone p phase (λ life. None ≡ out_by p.presence.setup act life) (λ outcome. refl);
      others = at_gone p phase (λ life. false ≡ others_moved_by p.presence.setup act life) (λ outcome. refl);
    }

-- ---- Settings

set_still : (settings : SettingsValue) (pace : Option Pace) (s : State) (o : Outcome) {paces : List Pace} →
    StandsStill s o → StandsStill (with_settings_in settings pace s) (record o { paces = paces })
set_still settings pace s o still = record {
  table = still.table;
  capacity = still.capacity;
  own = still.own;
  cursor = still.cursor;
  reports = still.reports;
}

-- what one does that is given settings
pub acts_configured : {p : ParticipantValue} (settings : SettingsValue) (pace : Option Pace) →
    IsPaceOf settings p.presence pace →
    Acts p (record p { presence = with_settings_in settings pace p.presence }) (configured p.presence.latest settings)
    None false
acts_configured {p} settings pace paced = record {
  setup = refl;
  latest = refl;
  calls = refl;
  changes = refl;
  lives = lives;
  hands_out = outs;
  others = moves;
}
  where
    act : Act
    act = configured p.presence.latest settings

    q : ParticipantValue
    q = record p { presence = with_settings_in settings pace p.presence }

    lives : (life : Life) → IsAt p life → IsAt q (lived p.presence.setup act life)
    lives (present outcome) at = (
      at.0,
      record {
        timing = at.1.timing;
        average = at.1.average;
        pace = paced outcome at.1;
        still = set_still settings pace p.presence outcome at.1.still;
      },
    )
    lives (backing_off outcome backoff) at = (
      at.0,
      record {
        timing = at.1.timing;
        average = at.1.average;
        still = set_still settings pace p.presence outcome at.1.still;
      },
    )
    lives (finished outcome) at = at

    outs : (life : Life) → IsAt p life → None ≡ out_by p.presence.setup act life
    outs (present outcome) at = refl
    outs life at = refl

    moves : (life : Life) → IsAt p life → false ≡ others_moved_by p.presence.setup act life
    moves (present outcome) at = none_since _ outcome.trace
    moves life at = refl

-- the same of one that another became
pub acts_set : {phase : PhaseValue} {changes : List IdentifierChange} {old new : State} (settings : SettingsValue) →
    new ≡ with_settings_in settings new.pace old → IsPaceOf settings old new.pace → let p : ParticipantValue = record {
      presence = old;
      phase = phase;
      changes = changes;
    } in Acts p (record p { presence = new }) (configured old.latest settings) None false
acts_set {phase} {changes} {old} {new} settings is paced =
    let p : ParticipantValue = record { presence = old; phase = phase; changes = changes } in
    subst (λ (s : State). Acts p (record p { presence = s }) (configured old.latest settings) None false) (sym is)
    (acts_configured settings new.pace paced)

-- a counted call leaves a participant where it is
call_keeps : (moment : ℕ) (p : ParticipantValue) (life : Life) → IsAt p life → IsAt (called moment p) life
call_keeps moment p (present outcome) at = (at.0, calls_agree p.presence outcome moment at.1)
call_keeps moment p (backing_off outcome backoff) at = (
  at.0,
  record {
    timing = at.1.timing;
    average = at.1.average;
    still = with_own p.presence outcome at.1.still at.1.still.own;
  },
)
call_keeps moment p (finished outcome) at = at

-- ---- Histories

-- Where a participant stands after an act, and the change that it brings.
pub record IsTaken (h : History) (act : Act) (change : Option NewIdentifier) : Type 0 where
  pub taken : refusal_after h act ≡ None
  pub changes : change_by (session_at h) act ≡ change

-- a step is the one that is answered wherever a participant is
abbrev pub IsStepOf : ParticipantValue → Option OutValue → (others_changed : Bool) → StepValue → Type 0
IsStepOf q out others_changed step = (life : Life) → IsAt q life →
    step ≡ step_into q.presence.setup out others_changed life

pub acted_stands : {p mid q : ParticipantValue} {act : Act} {out : Option OutValue} {moved : Bool} (h : History)
    (change : Option NewIdentifier) → StandsAt p h → IsTaken h act change → HasWords act
    → IsIn mid (changed_by change (session_at h)) → mid.presence.calls ≡ p.presence.calls →
    Acts (called (moment_of act) mid) q act out moved → StandsAt q (with_act h act)
acted_stands {p} {mid} {q} {act} {out} {moved} h change stands takes words at calls acts =
    let now = changed_by change (session_at h) in
    let lives = acts.lives now.life (call_keeps (moment_of act) mid now.life at.life) in
    record {
      is_history = record {
        usable = stands.is_history.usable;
        word = stands.is_history.word;
        taken = (takes.taken, words, stands.is_history.taken);
      };
      session = subst (λ (c : Option NewIdentifier). let s = changed_by c (session_at h) in
          IsIn q (record s { setup = setup_after act s.setup; life = lived s.setup act s.life })) (sym takes.changes)
          (record {
            setup = acts.setup ∙ ap (setup_after act) at.setup;
            changes = acts.changes ∙ at.changes;
            life = subst (λ (setup : Setup). IsAt q (lived setup act now.life)) at.setup lives;
          });
      latest = acts.latest;
      calls = acts.calls ∙ ap (λ (n : ℕ). n + 1) (calls ∙ stands.calls) ∙ omega arith;
    }

pub acted_step : {mid q : ParticipantValue} {act : Act} {out : Option OutValue} {moved : Bool} (h : History)
    (change : Option NewIdentifier) (bye : Option OutValue) (step : StepValue) → IsTaken h act change
    → IsIn mid (changed_by change (session_at h)) → Acts (called (moment_of act) mid) q act out moved →
    StandsAt q (with_act h act) → bye ≡ bye_of_change change (session_at h)
    → IsStepOf q (option_or bye out) moved step →
    record step { changed = option_map (λ (new : NewIdentifier). new.ssrc) change } ≡ step_by h act
acted_step {mid} {q} {act} {out} {moved} h change bye step takes at acts after byes is_step =
    let now = changed_by change (session_at h) in
    let next = session_at (with_act h act) in
    let number : NewIdentifier → ℕ = λ new. new.ssrc in
    let outs = acts.hands_out now.life (call_keeps (moment_of act) mid now.life at.life)
    ∙ ap (λ (setup : Setup). out_by setup act now.life) at.setup in
    let others = acts.others now.life (call_keeps (moment_of act) mid now.life at.life)
    ∙ ap (λ (setup : Setup). others_moved_by setup act now.life) at.setup in
    let steps : step ≡ step_into next.setup
    (option_or (bye_of_change change (session_at h)) (out_by now.setup act now.life))
    (others_moved_by now.setup act now.life) next.life =
    is_step next.life after.session.life
    ∙ (λ i. step_into (after.session.setup i) (option_or (byes i) (outs i)) (others i) next.life) in
    (λ i. record (steps i) { changed = option_map number change })
    ∙ sym (ap (λ (c : Option NewIdentifier). let s = changed_by c (session_at h) in
    record (step_into next.setup (option_or (bye_of_change c (session_at h)) (out_by s.setup act s.life))
    (others_moved_by s.setup act s.life) next.life) { changed = option_map number c }) takes.changes)

-- ---- What a call promises

pub answered : (h : History) (act : Act) (step : StepValue) → refusal_after h act ≡ None → step ≡ step_by h act →
    Ok step ≡ answer_of h act
answered h act step none is = ap Ok is ∙ sym (ap (λ (r : Option Refusal). answer_unless r (step_by h act)) none)

-- What is answered as the history says is answered in time.
pub promised : {p q : ParticipantValue} {act : Act} {given : AnswerValue} →
    ((h : History) → StandsAt p h → given ≡ answer_of h act) →
    ((h : History) → StandsAt p h → StandsAt q (followed_by h act)) → Promised p act given q
promised {p} {q} {act} {given} answer stands = record {
  answer = answer;
  stands = stands;
  not_too_late = λ h at. subst (IsAnsweredInTime h act) (sym (answer h at))
      (answered_in_time h act (stands h at).is_history);
}

-- an act that changes no identifier
pub takes : {p q : ParticipantValue} {act : Act} {out : Option OutValue} {moved : Bool} (step : StepValue) →
    ((h : History) → StandsAt p h → IsTaken h act None) → Acts (called (moment_of act) p) q act out moved →
    IsStepOf q out moved step
    → HasWords act → Promised p act (Ok step) q
takes {p} {q} {act} {out} {moved} step plainly acts is_step words = promised
    (λ h stands. answered h act step (plainly h stands).taken
    ((λ i. record step { changed = unchanged h stands i }) ∙ acted_step h None None step (plainly h stands)
    stands.session acts (after h stands) refl is_step))
    (λ h stands. subst (StandsAt q) (taken_history h act (plainly h stands).taken) (after h stands))
  where
    after : (h : History) → StandsAt p h → StandsAt q (with_act h act)
    after h stands = acted_stands h None stands (plainly h stands) words stands.session refl acts

    unchanged : (h : History) → StandsAt p h → step.changed ≡ None
    unchanged h stands = ap (λ (x : StepValue). x.changed)
        (is_step (life_at (with_act h act)) (after h stands).session.life)

pub refuses : (p : ParticipantValue) (act : Act) (reason : Refusal) →
    ((h : History) → StandsAt p h → refusal_after h act ≡ Some reason) → Promised p act (Err reason) p
refuses p act reason is = promised (λ h stands. refused_answer h act reason (is h stands))
    (λ h stands. whole_refused p h act reason (is h stands) stands)

-- a call that is refused for what it tells
pub content_refused : (p : ParticipantValue) (act : Act) (reason : Refusal) → refusal_by (moment_of act) p ≡ None →
    ((session : Session) → refusal_of_content session act ≡ Some reason) → Promised p act (Err reason) p
content_refused p act reason none content =
    refuses p act reason (λ h stands. refusal_is p h act None (Some reason) stands none (content (session_at h)))

-- a call of the host without a datagram
pub plain_call : (p : ParticipantValue) (act : Act) → refusal_by (moment_of act) p ≡ None →
    ((session : Session) → refusal_of_content session act ≡ None) →
    ((session : Session) → change_by session act ≡ None) → (h : History) → StandsAt p h → IsTaken h act None
plain_call p act none datagram unchanged h stands =
    record {
      taken = refusal_is p h act None None stands none (datagram (session_at h));
      changes = unchanged (session_at h);
    }

-- ---- The event of a call

-- the one act of an event without a datagram
pub alone : {p q : ParticipantValue} {act : Act} {given : AnswerValue} → Promised p act given q → (other : Act) →
    other ≡ act → Promised p other given q
alone {p} {q} {act} {given} takes other is = subst (λ (act : Act). Promised p act given q) (sym is) takes

-- No compound leaves the octets as they were.
pub leaves_all : {octets : List ℕ} → LeavesRest octets octets None
leaves_all = record { fits = omega arith; room = omega arith; rest = refl }

-- a call that is taken
pub replied : {p q : ParticipantValue} {event : EventValue} {before after : List ℕ} {told : WrittenStep}
    {written : Option Written} →
    ((act : Act) → IsActOfEvent event act → Promised p act (Ok (written_step_value after told)) q) →
    KeepsCapacity q.presence → SaysStanding told.standing q → told.out ≡ written → LeavesRest before after written →
    Replies p event before after (Ok told) q
replied {before} {after} takes within standing out leaves = record {
  takes = takes;
  spares = record { within = within; refused = tt };
  writes = record { standing = standing; leaves = subst (LeavesRest before after) (sym out) leaves };
}

-- one that is refused
pub refused : {p : ParticipantValue} {event : EventValue} {octets : List ℕ} {reason : Refusal} →
    ((act : Act) → IsActOfEvent event act → Promised p act (Err reason) p) → KeepsCapacity p.presence →
    Replies p event octets octets (Err reason) p
refused takes within = record {
  takes = takes;
  spares = record { within = within; refused = refl };
  writes = record { standing = tt; leaves = leaves_all };
}

-- one that is refused, whatever it tells
pub call_refused : {p : ParticipantValue} {event : EventValue} {octets : List ℕ} {moment : ℕ} {reason : Refusal} →
    ((act : Act) → IsActOfEvent event act → moment_of act ≡ moment) → refusal_by moment p ≡ Some reason →
    KeepsCapacity p.presence → Replies p event octets octets (Err reason) p
call_refused {p} {event} {octets} {moment} {reason} at same = refused (λ act is.
    refuses p act reason (λ h stands. refusal_is p h act (Some reason) (refusal_of_content (session_at h) act) stands
    (subst (λ (m : ℕ). refusal_by m p ≡ Some reason) (sym (at act is)) same) refl))

-- the same answer, with a compound of its own in place of octets of the caller's
pub with_compound : {p q : ParticipantValue} {event : EventValue} {before after : List ℕ}
    (reply : Result WrittenStep Refusal) (answer : Result Step Refusal) →
    answer_value answer ≡ reply_value after reply →
    Replies p event before after reply q → Answers p event answer q
with_compound {p} {q} {event} {before} {after} reply answer same replies = record {
  takes = λ act is. subst (λ (given : AnswerValue). Promised p act given q) (sym same) (replies.takes act is);
  spares = spared reply answer same replies.spares;
}
  where
    spared : (reply : Result WrittenStep Refusal) (answer : Result Step Refusal) →
        answer_value answer ≡ reply_value after reply → Spares p reply q → Spares p answer q
    spared reply (Ok step) same spares = record { within = spares.within; refused = tt }
    spared (Err reason) (Err refusal) same spares = record { within = spares.within; refused = spares.refused }
    spared (Ok told) (Err refusal) same spares = absurd cc
