-- A datagram before it is taken: under which SSRC that is done, or why it is refused.
use Rattle.std.proofs.Common.{◌≡◌, ◌==◌, true, false, arith, ◌&&◌, not, ℕ, List, Option, Some, None, Result, Ok, Err, refl, sym, ap, ◌∙◌, subst}
use Rattle.std.proofs.lemmas.Bool.{eqb-true}
use Rattle.std.proofs.lemmas.Bool.Decides.{nat_tests}
use Rattle.std.specs.Option.{option_or}
use Rattle.rtcp_wire.specs.Values.{RtcpPacket, RtpValue}
use Rattle.rtcp_wire.specs.declared.fault.WireFault.{WireFault}
use Rattle.rtcp_wire.specs.declared.rtp.fault.RtpFault.{RtpFault}
use Rattle.rtcp_wire.specs.Readings.{rtcp_in}
use Rattle.rtcp_wire.specs.RtpReadings.{rtp_in}
use Rattle.rtcp_engine.specs.declared.refusal.Refusal.{Refusal}
use Rattle.rtcp_engine.specs.declared.refusal.Refusal.TheVariants.{OwnSsrc}
use Rattle.rtcp_engine.specs.answers.Acts.{Act, Datagram, EventValue, IsActOfEvent, IsReading, IsRtpReading, arrived, moment_of, rtcp_arrived, rtcp_came, rtp_arrived, rtp_came}
use Rattle.rtcp_engine.specs.answers.Answers.{taken_under, fault_in, refusal_after, refusal_of_content}
use Rattle.rtcp_engine.specs.answers.Changes.{NewIdentifier, changed_by, changing_peers, is_about, may_change}
use Rattle.rtcp_engine.specs.answers.Histories.{History, session_at, session_for}
use Rattle.rtcp_engine.specs.answers.Refusals.{refusal_if}
use Rattle.rtcp_engine.specs.state.Promises.{Foretells}
use Rattle.rtcp_engine.specs.state.States.{ParticipantValue, StandsAt, refusal_by}
use Rattle.rtcp_engine.proofs.ActLemmas.{IsTaken}
use Rattle.rtcp_engine.proofs.AnswerLemmas.{refusal_is}
use Rattle.rtcp_engine.proofs.LawLemmas.{one_reading-computed, one_reading-once, one_reading-rtp_computed, one_reading-rtp_once}

pub told_refusal : (h : History) (act : Act) (reason : Refusal) → refusal_after h act ≡ Some reason →
    Err reason ≡ taken_under h act
told_refusal h act reason is = sym (ap (λ (r : Option Refusal). elim r [
  | None ↦ Ok (session_for (session_at h) act).setup.ssrc
  | Some refusal ↦ Err refusal
]) is)

pub told_ssrc : (h : History) (act : Act) (change : Option NewIdentifier) → IsTaken h act change →
    Ok (changed_by change (session_at h)).setup.ssrc ≡ taken_under h act
told_ssrc h act change takes =
    sym (ap (λ (c : Option NewIdentifier). Ok (changed_by c (session_at h)).setup.ssrc) takes.changes)
    ∙ sym (ap (λ (r : Option Refusal). elim r [
      | None ↦ Ok (session_for (session_at h) act).setup.ssrc
      | Some refusal ↦ Err refusal
    ]) takes.taken)

-- ---- Refusals

pub call_foretold : {p : ParticipantValue} (event : EventValue) {moment : ℕ} {reason : Refusal} →
    ((act : Act) → IsActOfEvent event act → moment_of act ≡ moment) → refusal_by moment p ≡ Some reason →
    Foretells p event (Err reason)
call_foretold {p} event {moment} {reason} at same act h is stands = told_refusal h act reason
    (refusal_is p h act (Some reason) (refusal_of_content (session_at h) act) stands
    (subst (λ (m : ℕ). refusal_by m p ≡ Some reason) (sym (at act is)) same) refl)

pub fault_foretold : {p : ParticipantValue} (t peer word : ℕ) (datagram : Datagram) {reason : Refusal} →
    refusal_by t p ≡ None → fault_in datagram ≡ Some reason → (h : History) → StandsAt p h →
    Err reason ≡ taken_under h (arrived t peer word datagram)
fault_foretold {p} t peer word datagram {reason} none fault h stands =
    let act = arrived t peer word datagram in
    let own = refusal_if (is_about (session_at h).setup.ssrc datagram && not
    (may_change (changing_peers (session_at h)) peer)) OwnSsrc in
    told_refusal h act reason
    (refusal_is p h act None (Some reason) stands none (ap (λ (r : Option Refusal). option_or r own) fault))

-- ---- The event: octets say one thing, so it is one act

pub of_compound : {p : ParticipantValue} {moment peer word : ℕ} {told : Result ℕ Refusal} (octets : List ℕ)
    (reading : Result (List RtcpPacket) WireFault) → IsReading octets reading →
    ((h : History) → StandsAt p h → told ≡ taken_under h (rtcp_came moment peer word octets reading)) →
    Foretells p (rtcp_arrived moment peer word octets) told
of_compound {p} {moment} {peer} {word} {told} octets reading reads foretold act h is stands =
    let one = one_reading-once octets reading (rtcp_in octets) reads (one_reading-computed octets) in
    foretold h stands ∙ ap (taken_under h) (ap (rtcp_came moment peer word octets) one ∙ sym is)

pub of_packet : {p : ParticipantValue} {moment peer word : ℕ} {told : Result ℕ Refusal} (octets : List ℕ)
    (reading : Result RtpValue RtpFault) → IsRtpReading octets reading →
    ((h : History) → StandsAt p h → told ≡ taken_under h (rtp_came moment peer word reading)) →
    Foretells p (rtp_arrived moment peer word octets) told
of_packet {p} {moment} {peer} {word} {told} octets reading reads foretold act h is stands =
    let one = one_reading-rtp_once octets reading (rtp_in octets) reads (one_reading-rtp_computed octets) in
    foretold h stands ∙ ap (taken_under h) (ap (rtp_came moment peer word) one ∙ sym is)

-- ---- Numbers that are compared

pub is_same : (one other : ℕ) → one ≡ other → one == other ≡ true
is_same one other same = grind (arith, nat_tests, same)

pub is_other : (one other : ℕ) → (one ≡ other → ⊥) → one == other ≡ false
is_other one other differ = elim (one == other) as (λ e. one == other ≡ e → e ≡ false) [
  | true ↦ λ e. absurd (differ (eqb-true one other e))
  | false ↦ λ e. refl
] refl
