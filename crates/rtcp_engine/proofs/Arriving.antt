-- A datagram that was read: whether it is refused, and whether it changes the identifier.
use Rattle.std.proofs.Common.{◌≡◌, ℕ, ◌&&◌, not, Bool, true, false, List, map, Option, Some, None, Result, Err, if◌then◌else◌, refl, sym, ap, ◌∙◌, subst}
use Rattle.rtcp_wire.specs.Values.{RtcpPacket, RtpValue}
use Rattle.rtcp_wire.specs.declared.fault.WireFault.{WireFault}
use Rattle.rtcp_wire.specs.declared.rtp.fault.RtpFault.{RtpFault}
use Rattle.std.specs.Option.{option_or}
use Rattle.rtcp_wire.specs.Readings.{rtcp_in}
use Rattle.rtcp_wire.specs.RtpReadings.{rtp_in}
use Rattle.rtcp_engine.specs.declared.arrival.Arrival.{Arrival}
use Rattle.rtcp_engine.specs.declared.arrival.Arrival.TheVariants.{Rtcp, Rtp}
use Rattle.rtcp_engine.specs.declared.changes.IdentifierChange.{IdentifierChange}
use Rattle.rtcp_engine.specs.declared.refusal.Refusal.{Refusal}
use Rattle.rtcp_engine.specs.declared.refusal.Refusal.TheVariants.{OwnSsrc}
use Rattle.rtcp_engine.specs.answers.Acts.{Act, Datagram, IsActOfEvent, IsReading, IsRtpReading, arrived, rtcp_arrived, rtcp_came, rtp_arrived, rtp_came, AnswerValue}
use Rattle.rtcp_engine.specs.answers.Changes.{NewIdentifier, Session, changing_peers, is_about, new_identifier, may_change}
use Rattle.rtcp_engine.specs.answers.Histories.{History, session_at}
use Rattle.rtcp_engine.specs.state.Promises.{Takes as Promised}
use Rattle.rtcp_engine.specs.answers.Refusals.{refusal_if}
use Rattle.rtcp_engine.specs.answers.Setups.{Setup}
use Rattle.rtcp_engine.specs.state.States.{ParticipantValue, StandsAt, refusal_by}
use Rattle.rtcp_engine.specs.state.Views.{datagram_of}
use Rattle.rtcp_engine.proofs.ActLemmas.{IsTaken, refuses}
use Rattle.rtcp_engine.proofs.AnswerLemmas.{refusal_is}
use Rattle.rtcp_engine.proofs.LawLemmas.{one_reading-computed, one_reading-once, one_reading-rtp_computed, one_reading-rtp_once}
use Rattle.rtcp_engine.specs.answers.Answers.{fault_in, refusal_after, refusal_of_content}

-- one that was read has no fault
no_fault : (arrival : Arrival) → fault_in (datagram_of arrival) ≡ None
no_fault (Rtcp compound size) = refl
no_fault (Rtp head) = refl

-- It is refused for its own identifier alone.
own_alone : (session : Session) (t peer word : ℕ) (arrival : Arrival) (own may : Bool) →
    is_about session.setup.ssrc (datagram_of arrival) ≡ own → may_change (changing_peers session) peer ≡ may
    → refusal_of_content session (arrived t peer word (datagram_of arrival)) ≡ refusal_if (own && not may) OwnSsrc
own_alone session t peer word arrival own may owns mays = λ i. option_or (no_fault arrival i)
    (refusal_if (owns i && not (mays i)) OwnSsrc)

pub refused_as_own : (p : ParticipantValue) (h : History) (t peer word : ℕ) (arrival : Arrival) → StandsAt p h →
    refusal_by t p ≡ None → is_about (session_at h).setup.ssrc (datagram_of arrival) ≡ true
    → may_change (changing_peers (session_at h)) peer ≡ false →
    refusal_after h (arrived t peer word (datagram_of arrival)) ≡ Some OwnSsrc
refused_as_own p h t peer word arrival stands none own may =
    refusal_is p h (arrived t peer word (datagram_of arrival)) None (Some OwnSsrc) stands none
    (own_alone (session_at h) t peer word arrival true false own may)

-- one that is refused for its fault
pub fault_answered : {p : ParticipantValue} (t peer word : ℕ) (datagram : Datagram) {reason : Refusal} →
    refusal_by t p ≡ None → fault_in datagram ≡ Some reason → Promised p (arrived t peer word datagram) (Err reason) p
fault_answered {p} t peer word datagram {reason} none fault =
    let act = arrived t peer word datagram in
    refuses p act reason (λ h stands.
    let own = refusal_if (is_about (session_at h).setup.ssrc datagram && not
    (may_change (changing_peers (session_at h)) peer)) OwnSsrc in
    refusal_is p h act None (Some reason) stands none (ap (λ (r : Option Refusal). option_or r own) fault))

pub plain : (p : ParticipantValue) (h : History) (t peer word : ℕ) (arrival : Arrival) → StandsAt p h →
    refusal_by t p ≡ None → is_about (session_at h).setup.ssrc (datagram_of arrival) ≡ false
    → IsTaken h (arrived t peer word (datagram_of arrival)) None
plain p h t peer word arrival stands none other =
    let session = session_at h in
    let act = arrived t peer word (datagram_of arrival) in
    let may = may_change (changing_peers session) peer in
    record {
      taken = refusal_is p h act None None stands none (own_alone session t peer word arrival false may other refl);
      changes = ap (λ (own : Bool). if own then Some
          (record { peer = peer; ssrc = new_identifier word session (datagram_of arrival) }) else None) other;
    }

pub changing : (p : ParticipantValue) (h : History) (t peer word ssrc : ℕ) (arrival : Arrival) → StandsAt p h →
    refusal_by t p ≡ None → is_about (session_at h).setup.ssrc (datagram_of arrival) ≡ true
    → may_change (changing_peers (session_at h)) peer ≡ true →
    ssrc ≡ new_identifier word (session_at h) (datagram_of arrival) →
    IsTaken h (arrived t peer word (datagram_of arrival)) (Some (record { peer = peer; ssrc = ssrc }))
changing p h t peer word ssrc arrival stands none own may chosen =
    let session = session_at h in
    let change : ℕ → Option NewIdentifier = λ ssrc. Some (record { peer = peer; ssrc = ssrc }) in
    record {
      taken = refusal_is p h (arrived t peer word (datagram_of arrival)) None None stands none
          (own_alone session t peer word arrival true true own may);
      changes = ap (λ (own : Bool). if own then change (new_identifier word session (datagram_of arrival)) else None)
          own ∙ sym (ap change chosen);
    }

-- what a datagram is about, and whose may change the identifier, as the history has it
pub is_own : (p : ParticipantValue) (h : History) (datagram : Datagram) → StandsAt p h →
    is_about p.presence.setup.ssrc datagram ≡ true → is_about (session_at h).setup.ssrc datagram ≡ true
is_own p h datagram stands own = sym (ap (λ (s : Setup). is_about s.ssrc datagram) stands.session.setup) ∙ own

pub may_is : (p : ParticipantValue) (h : History) (peer : ℕ) → StandsAt p h →
    may_change (map (λ (change : IdentifierChange). change.peer) p.changes) peer ≡ may_change
    (changing_peers (session_at h)) peer
may_is p h peer stands = ap (λ (changes : List IdentifierChange). may_change
    (map (λ (change : IdentifierChange). change.peer) changes)
    peer) stands.session.changes

-- ---- The event

-- Octets say one thing, so the event of a datagram is one act.
pub as_compound : {p q : ParticipantValue} {moment peer word : ℕ} {given : AnswerValue} (octets : List ℕ)
    (reading : Result (List RtcpPacket) WireFault) → IsReading octets reading →
    Promised p (rtcp_came moment peer word octets reading) given q → (act : Act) →
    IsActOfEvent (rtcp_arrived moment peer word octets) act → Promised p act given q
as_compound {p} {q} {moment} {peer} {word} {given} octets reading reads takes act is =
    let one = one_reading-once octets reading (rtcp_in octets) reads (one_reading-computed octets) in
    subst (λ (act : Act). Promised p act given q) (ap (rtcp_came moment peer word octets) one ∙ sym is) takes

pub as_packet : {p q : ParticipantValue} {moment peer word : ℕ} {given : AnswerValue} (octets : List ℕ)
    (reading : Result RtpValue RtpFault) → IsRtpReading octets reading →
    Promised p (rtp_came moment peer word reading) given q → (act : Act) →
    IsActOfEvent (rtp_arrived moment peer word octets) act → Promised p act given q
as_packet {p} {q} {moment} {peer} {word} {given} octets reading reads takes act is =
    let one = one_reading-rtp_once octets reading (rtp_in octets) reads (one_reading-rtp_computed octets) in
    subst (λ (act : Act). Promised p act given q) (ap (rtp_came moment peer word) one ∙ sym is) takes
