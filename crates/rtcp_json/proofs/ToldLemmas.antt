-- The values of a session on a link are fit for a line where their numbers are in the ranges of Rust's types.
use Rattle.std.proofs.Common.{◌≡◌, ℕ, ◌^◌, ◌<◌, List, Option, Some, None, Ok, Err, IfSome, true, inl, inr, length, length-append, ap, codes, refl, subst, sym, arith}
use Rattle.std.proofs.lemmas.Str.{IsUtf8-append}
use Rattle.std.specs.Fmt.{decimal}
use Rattle.std.specs.Str.{IsUtf8}
use Rattle.json.specs.Json.{Json, null}
use Rattle.json.proofs.Printed.Utf8.{are_ascii, IsUtf8-are_ascii}
use Rattle.rtcp_wire.specs.Faults.{IsFirstFault}
use Rattle.rtcp_wire.specs.Grammar.{AreOctets, IsAccepted}
use Rattle.rtcp_wire.specs.Values.{RtcpPacket}
use Rattle.rtcp_wire.specs.declared.fault.WireFault.{WireFault}
use Rattle.rtcp_wire.proofs.LawLemmas.{accepted_packets_are_writable-writable, accepted_packets_are_writable-in_range}
use Rattle.rtcp_engine.specs.answers.Acts.{EventValue, rtcp_arrived, rtp_arrived, packet_sent, time_passed, leave_asked, settings_given, forget_asked}
use Rattle.rtcp_guarded.specs.Guarded.{GuardedAnswer}
use Rattle.rtcp_guarded.specs.declared.untaken.Untaken.TheVariants.{Refused, HeldBack}
use Rattle.rtcp_serve.specs.declared.serving.Cause.{Cause}
use Rattle.rtcp_serve.specs.declared.serving.Cause.TheVariants.{Done, LinkDown, Limit}
use Rattle.rtcp_serve.specs.declared.serving.End.{End}
use Rattle.rtcp_json.specs.AnswerValues.{guarded_answer_json}
use Rattle.rtcp_json.specs.JsonValues.{optional_json}
use Rattle.rtcp_json.specs.PacketValues.{IsShownAs, datagram_json, fault_json}
use Rattle.rtcp_json.specs.ToldValues.{IsShownIfSome, cause_text, datagram_of_event, end_json, event_text, moment_json, moment_of_event, peer_json, peer_of_event, peer_text, told_json, unsent_json}
use Rattle.rtcp_json.specs.Validity.{IsAnswerInRange, IsEndInRange, IsEventInRange}
use Rattle.rtcp_json.proofs.AnswerLemmas.{held_back_fit, refusal_fit, step_fit}
use Rattle.rtcp_json.proofs.FitLemmas.{IsFitTo, decimal_fit}
use Rattle.rtcp_json.proofs.SmallLemmas.{packets_small}
use Rattle.rtcp_json.proofs.ValueLemmas.{datagram_fit, fault_fit}

-- ---- Datagrams

pub accepted_fit : (octets : List ℕ) (packets : List RtcpPacket) → AreOctets octets → IsAccepted octets packets →
    IsFitTo 8 (datagram_json packets)
accepted_fit octets packets all accepted =
    let writable = accepted_packets_are_writable-writable octets packets all accepted in
    let ranges = accepted_packets_are_writable-in_range octets packets all accepted in
    let small = packets_small packets octets all accepted.joined in
    datagram_fit packets (λ k d within. ((writable k d within).parts, ranges k d within, small k d within))

place_small : (octets : List ℕ) (fault : WireFault) → IsFirstFault octets fault → fault.place < 2 ^ 64
place_small octets fault (inl long) = omega (arith, long.2)
place_small octets fault (inr stops) =
    omega (arith, stops.short, stops.place, ap length stops.parts, length-append stops.prefix stops.rest)

pub refused_fit : (octets : List ℕ) (fault : WireFault) → IsFirstFault octets fault → IsFitTo 8 (fault_json fault)
refused_fit octets fault first = fault_fit fault (place_small octets fault first)

null_fit : (deep : ℕ) → IsFitTo deep null
null_fit deep = record { shallow = omega arith; fit = tt }

shown_fit : (octets : List ℕ) (value : Json) → AreOctets octets → IsShownAs octets value → IsFitTo 8 value
shown_fit octets value all (inl h) = subst (IsFitTo 8) (sym h.2) (accepted_fit octets h.0 all h.1)
shown_fit octets value all (inr h) = subst (IsFitTo 8) (sym h.2) (refused_fit octets h.0 h.1)

shown_if_some_fit : (octets : Option (List ℕ)) (value : Json) → IfSome octets AreOctets → IsShownIfSome octets value →
    IsFitTo 8 value
shown_if_some_fit None value all none = subst (IsFitTo 8) (sym none) (null_fit 8)
shown_if_some_fit (Some octets) value all shown = shown_fit octets value all shown

-- ---- Events with their answers

decimal_utf8 : (n : ℕ) → n < 2 ^ 64 → IsUtf8 (decimal n)
decimal_utf8 n small = (decimal_fit n small).utf8

peer_utf8 : (peer : ℕ) → IsUtf8 (peer_text peer)
peer_utf8 peer =
    let dot : IsUtf8 (codes ".") = IsUtf8-are_ascii (codes ".") refl in
    let colon : IsUtf8 (codes ":") = IsUtf8-are_ascii (codes ":") refl in
    IsUtf8-append _ _
    (IsUtf8-append _ _
    (IsUtf8-append _ _
    (IsUtf8-append _ _
    (IsUtf8-append _ _
    (IsUtf8-append _ _
    (IsUtf8-append _ _ (IsUtf8-append _ _ (decimal_utf8 _ (omega arith)) dot) (decimal_utf8 _ (omega arith)))
    dot)
    (decimal_utf8 _ (omega arith)))
    dot)
    (decimal_utf8 _ (omega arith)))
    colon)
    (decimal_utf8 _ (omega arith))

peer_fit : (peer : Option ℕ) → IsFitTo 0 (optional_json peer_json peer)
peer_fit None = null_fit 0
peer_fit (Some peer) = record { shallow = omega arith; fit = peer_utf8 peer }

event_ascii : (event : EventValue) → are_ascii (event_text event) ≡ true
event_ascii (rtcp_arrived moment peer word octets) = refl
event_ascii (rtp_arrived moment peer word octets) = refl
event_ascii (packet_sent moment timestamp octets) = refl
event_ascii (time_passed moment first_word second_word) = refl
event_ascii (leave_asked moment word) = refl
event_ascii (settings_given moment settings) = refl
event_ascii (forget_asked moment ssrc) = refl

answer_fit : (answer : GuardedAnswer) → IsAnswerInRange answer → IsFitTo 8 (guarded_answer_json answer)
answer_fit (Ok step) small = step_fit step small
answer_fit (Err (Refused refusal)) small = refusal_fit refusal small
answer_fit (Err (HeldBack reason)) small = held_back_fit reason

moment_fit : (moment : ℕ) (word : List ℕ) (peer datagram answer : Json) → moment < 2 ^ 64 → are_ascii word ≡ true →
    IsFitTo 0 peer → IsFitTo 8 datagram → IsFitTo 8 answer → IsFitTo 9 (moment_json moment word peer datagram answer)
moment_fit moment word peer datagram answer small ascii peer_fits datagram_fits answer_fits =
    let shallow_peer = peer_fits.shallow in
    let shallow_datagram = datagram_fits.shallow in
    let shallow_answer = answer_fits.shallow in
    record {
      shallow = omega arith;
      fit = (
        refl,
        decimal_fit moment small,
        (
          refl,
          IsUtf8-are_ascii word ascii,
          (refl, peer_fits.fit, (refl, datagram_fits.fit, (refl, answer_fits.fit, tt))),
        ),
      );
    }

pub told_fit : (event : EventValue) (datagram : Json) (answer : GuardedAnswer) → IsEventInRange event →
    IsShownIfSome (datagram_of_event event) datagram → IsAnswerInRange answer →
    IsFitTo 9 (told_json event datagram answer)
told_fit event datagram answer ranges shown small =
    moment_fit (moment_of_event event) (event_text event) (optional_json peer_json (peer_of_event event)) datagram
    (guarded_answer_json answer) ranges.moment (event_ascii event) (peer_fit (peer_of_event event))
    (shown_if_some_fit (datagram_of_event event) datagram ranges.octets shown) (answer_fit answer small)

pub unsent_fit : (moment : ℕ) → moment < 2 ^ 64 → IsFitTo 9 (unsent_json moment)
unsent_fit moment small =
    moment_fit moment (codes "unsent") null null null small refl (null_fit 0) (null_fit 8) (null_fit 8)

-- ---- The end

cause_ascii : (cause : Cause) → are_ascii (cause_text cause) ≡ true
cause_ascii Done = refl
cause_ascii LinkDown = refl
cause_ascii Limit = refl

pub end_fit : (ended : End) → IsEndInRange ended → IsFitTo 1 (end_json ended)
end_fit ended small = record {
  shallow = omega arith;
  fit = (
    refl,
    IsUtf8-are_ascii (cause_text ended.cause) (cause_ascii ended.cause),
    (
      refl,
      decimal_fit ended.received small.received,
      (
        refl,
        decimal_fit ended.refused small.refused,
        (
          refl,
          decimal_fit ended.sent small.sent,
          (
            refl,
            decimal_fit ended.send_failures small.send_failures,
            (refl, decimal_fit ended.recv_failures small.recv_failures, (refl, tt, tt)),
          ),
        ),
      ),
    ),
  );
}
