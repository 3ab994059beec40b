-- What a call comes to: whether it is refused, what is answered, and where the participant stands after it.
use Rattle.std.proofs.Common.{◌≡◌, length, Option, Some, None, Err, refl, sym, ap, ◌∙◌, subst}
use Rattle.std.specs.Option.{option_or}
use Rattle.rtcp_engine.specs.declared.refusal.Refusal.{Refusal}
use Rattle.rtcp_engine.specs.answers.Acts.{Act, moment_of, answer_unless}
use Rattle.rtcp_engine.specs.answers.Leaving.{Life, present, backing_off, finished}
use Rattle.rtcp_engine.specs.answers.Histories.{History, last_moment, life_at, session_at, with_act}
use Rattle.rtcp_engine.specs.answers.Refusals.{refusal_of}
use Rattle.rtcp_engine.specs.answers.Answers.{step_by, answer_of, followed_by, call_refusal, refusal_after, refusal_in, refusal_of_content}
use Rattle.rtcp_engine.specs.state.States.{PhaseValue, ParticipantValue, IsAt, StandsAt, refusal_by, refusal_in_phase}

-- ---- Refusals

refusal_at : (p : ParticipantValue) (life : Life) → IsAt p life → (call datagram : Option Refusal) →
    refusal_in life (option_or call datagram) ≡ option_or (refusal_in_phase p.phase call) datagram
refusal_at p (present outcome) at call datagram =
    sym (ap (λ (phase : PhaseValue). option_or (refusal_in_phase phase call) datagram) at.0)
refusal_at p (backing_off outcome backoff) at call datagram =
    sym (ap (λ (phase : PhaseValue). option_or (refusal_in_phase phase call) datagram) at.0)
refusal_at p (finished outcome) at call datagram =
    sym (ap (λ (phase : PhaseValue). option_or (refusal_in_phase phase call) datagram) at)

-- A participant refuses what its history refuses: as any call then, or for the datagram.
pub refusal_is : (p : ParticipantValue) (h : History) (act : Act) (call datagram : Option Refusal) → StandsAt p h →
    refusal_by (moment_of act) p ≡ call → refusal_of_content (session_at h) act ≡ datagram →
    refusal_after h act ≡ option_or call datagram
refusal_is p h act call datagram stands calls datagrams =
    let own = refusal_of_content (session_at h) act in
    refusal_at p (life_at h) stands.session.life (call_refusal (moment_of act) (last_moment h.acts) (length h.acts)) own
    ∙ (λ i. option_or (refusal_in_phase p.phase
    (call_refusal (moment_of act) (sym stands.latest i) (sym stands.calls i))) own)
    ∙ (λ i. option_or (calls i) (datagrams i))

none_before : (life : Life) (refusal : Option Refusal) → refusal_in life refusal ≡ None → refusal ≡ None
none_before (finished outcome) refusal none = absurd cc
none_before life refusal none = none

pub neither : (first second : Option Refusal) → option_or first second ≡ None → (first ≡ None) × (second ≡ None)
neither None second none = (refl, none)
neither (Some refusal) second none = absurd cc

-- an act that is taken is refused neither as any act then nor for its datagram
pub unrefused : (history : History) (act : Act) → refusal_after history act ≡ None →
    (call_refusal (moment_of act) (last_moment history.acts) (length history.acts) ≡ None)
    × (refusal_of_content (session_at history) act ≡ None)
unrefused history act none = neither _ _ (none_before (life_at history) (refusal_of history act) none)

-- ---- Answers

pub refused_answer : (h : History) (act : Act) (reason : Refusal) → refusal_after h act ≡ Some reason →
    Err reason ≡ answer_of h act
refused_answer h act reason is = sym (ap (λ (r : Option Refusal). answer_unless r (step_by h act)) is)

pub whole_refused : (p : ParticipantValue) (h : History) (act : Act) (reason : Refusal) →
    refusal_after h act ≡ Some reason → StandsAt p h → StandsAt p (followed_by h act)
whole_refused p h act reason is stands =
    subst (StandsAt p) (sym (ap (λ (r : Option Refusal). elim r [ None ↦ with_act h act | Some other ↦ h ]) is)) stands

pub taken_history : (h : History) (act : Act) → refusal_after h act ≡ None → with_act h act ≡ followed_by h act
taken_history h act none = sym (ap (λ (r : Option Refusal). elim r [ None ↦ with_act h act | Some other ↦ h ]) none)
