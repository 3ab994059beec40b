-- The source of a compound's first packet: its identifier stands after the header.
use Rattle.std.proofs.Common.{◌≡◌, ◌≢◌, ℕ, ◌-◌, ◌≤◌, ◌⊎◌, List, [], ◌∷◌, length, take, drop, sym, ap, subst, ◌∙◌, arith, inl, inr}
use Rattle.std.proofs.lemmas.List.{length-drop, length-take, get_or-take}
use Rattle.byteorder.specs.Endian.{big_number}
use Rattle.rtcp_wire.specs.Grammar.{IsAccepted}
use Rattle.rtcp_wire.specs.Readings.{size_of}
use Rattle.rtcp_wire.specs.Headers.{type_of, count_of, padding_of, body_of}
use Rattle.rtcp_wire.specs.Walks.{body_says, packet_in, packets_in}
use Rattle.rtcp_wire.specs.Summaries.{sender_of}
use Rattle.rtcp_wire.specs.Validity.{IsSomeBody}
use Rattle.rtcp_wire.specs.Values.{RtcpPacket, sr, rr, sdes, bye, app, other}
use Rattle.rtcp_wire.proofs.PacketSteps.{PacketStep, packet_step, some_room}
use Rattle.rtcp_wire.proofs.ReadingWalks.{walk_reads}

-- the number in the first four octets, whatever follows them
pub number_taken : (n : ℕ) (octets : List ℕ) → 4 ≤ n → big_number 4 (take n octets) ≡ big_number 4 octets
number_taken n octets room =
    let a = get_or-take n octets 0 0 (omega (arith, room)) in
    let b = get_or-take n octets 1 0 (omega (arith, room)) in
    let c = get_or-take n octets 2 0 (omega (arith, room)) in
    let d = get_or-take n octets 3 0 (omega (arith, room)) in
    omega (arith, a, b, c, d)

-- The packet is a report of this source.
abbrev pub IsReportOf : (ssrc : ℕ) → RtcpPacket → Type 0
IsReportOf ssrc (sr sender blocks extension) = sender.ssrc ≡ ssrc
IsReportOf ssrc (rr own blocks extension) = own ≡ ssrc
IsReportOf ssrc (sdes chunks) = ⊥
IsReportOf ssrc (bye ids reason) = ⊥
IsReportOf ssrc (app subtype own name content) = ⊥
IsReportOf ssrc (other kind count body) = ⊥

report_says : (kind count ssrc : ℕ) (body : List ℕ) → (kind ≡ 200) ⊎ (kind ≡ 201) → big_number 4 body ≡ ssrc →
    IsReportOf ssrc (body_says kind count body)
report_says kind count ssrc body (inl is) e =
    subst (λ (k : ℕ). IsReportOf ssrc (body_says k count body)) (sym is) (number_taken 24 body (omega arith) ∙ e)
report_says kind count ssrc body (inr is) e =
    subst (λ (k : ℕ). IsReportOf ssrc (body_says k count body)) (sym is) (number_taken 4 body (omega arith) ∙ e)

-- A report has room for its identifier.
report_room : (kind count : ℕ) (body : List ℕ) → (kind ≡ 200) ⊎ (kind ≡ 201) → IsSomeBody kind count body →
    4 ≤ length body
report_room kind count body (inl is) h = omega (arith, some_room 200 kind count body is h)
report_room kind count body (inr is) h = omega (arith, some_room 201 kind count body is h)

-- ---- At an accepted datagram

module _ (octets : List ℕ) (h : IsAccepted octets (packets_in octets)) where
  not_empty : octets ≢ []
  not_empty none = no_type (type_of octets) (ap type_of none) h.begins.0
    where
      no_type : (kind : ℕ) → kind ≡ 0 → (kind ≡ 200) ⊎ (kind ≡ 201) → ⊥
      no_type kind is (inl e) = omega (arith, is, e)
      no_type kind is (inr e) = omega (arith, is, e)

  step : PacketStep octets
  step = packet_step octets not_empty h.joined

  room : 4 ≤ length (body_of octets)
  room = report_room (type_of octets) (count_of octets) (body_of octets) h.begins.0 step.body

  pub first_is_report : IsReportOf (sender_of octets) (packet_in octets)
  first_is_report =
      let fits : 4 ≤ size_of octets - 4 - padding_of octets =
      omega (arith, room, length-take (size_of octets - 4 - padding_of octets) (drop 4 octets)) in
      report_says (type_of octets) (count_of octets) (sender_of octets) (body_of octets) h.begins.0
      (number_taken (size_of octets - 4 - padding_of octets) (drop 4 octets) fits)

  long : 8 ≤ length octets
  long =
      omega (
        arith,
        room,
        length-take (size_of octets - 4 - padding_of octets) (drop 4 octets),
        length-drop 4 octets,
      )

-- An accepted datagram has room for a header and an identifier.
pub accepted_length : (octets : List ℕ) (packets : List RtcpPacket) → IsAccepted octets packets → 8 ≤ length octets
accepted_length octets packets accepted =
    long octets (subst (IsAccepted octets) (sym (walk_reads packets octets accepted.joined)) accepted)

-- It begins with a report of the source whose identifier follows the header.
pub begins_with_report : (octets : List ℕ) (first : RtcpPacket) (packets : List RtcpPacket) →
    IsAccepted octets (packets_in octets) → packets_in octets ≡ first ∷ packets → IsReportOf (sender_of octets) first
begins_with_report octets first packets accepted is =
    let same : packet_in octets ≡ first = first_of (sym (step octets accepted).first ∙ is) in
    subst (IsReportOf (sender_of octets)) same (first_is_report octets accepted)
  where
    first_of : {p q : RtcpPacket} {ps qs : List RtcpPacket} → p ∷ ps ≡ q ∷ qs → p ≡ q
    first_of e = cc

-- It has a packet.
pub some_packet : (octets : List ℕ) → IsAccepted octets (packets_in octets) → packets_in octets ≢ []
some_packet octets accepted none = not_none (sym (step octets accepted).first ∙ none)
  where
    not_none : {p : RtcpPacket} {ps : List RtcpPacket} → p ∷ ps ≡ [] → ⊥
    not_none e = absurd cc
