-- What is told of the parts of a datagram is in the ranges of their fields.
use Rattle.std.proofs.Common.{◌≡◌, ℕ, ◌%◌, ◌<◌, ◌≤◌, ◌≤ℤ◌, ℤ, pos, negsuc, List, [], ◌∷◌, All, length, slice_get, Option, Some, None, arith, sym, subst}
use Rattle.std.proofs.lemmas.List.Elements.{All-nil, All-cons, All-append, All-head, All-tail}
use Rattle.std.proofs.lemmas.Option.{slice_get_within, get_or_from_slice_get}
use Rattle.rtcp_wire.specs.Contents.{all_apps, all_blocks, all_goodbyes, all_items, packet_apps}
use Rattle.rtcp_wire.specs.Grammar.{AreOctets, IsAccepted}
use Rattle.rtcp_wire.specs.RtpHeads.{IsReserved, IsRtpHead}
use Rattle.rtcp_wire.specs.Values.{AppValue, ItemValue, ReportBlock, RtcpPacket, app, RtpValue}
use Rattle.rtcp_wire.specs.Writing.{IsWritable, IsWritableBlock, IsWritableItem, IsWritableReason}
use Rattle.rtcp_wire.proofs.LawLemmas as wire
use Rattle.jalwedd_host.specs.declared.app.AppPlace.{AppPlace}
use Rattle.jalwedd_host.specs.declared.head.HeadPlace.{HeadPlace}
use Rattle.jalwedd_host.specs.declared.parts.GoodbyePlace.{GoodbyePlace}
use Rattle.jalwedd_host.specs.declared.parts.ItemPlace.{ItemPlace}
use Rattle.jalwedd_host.specs.declared.reading.Report.{Report}
use Rattle.jalwedd_host.specs.Apps.{ShowsApp}
use Rattle.jalwedd_host.specs.Heads.{ShowsHead}
use Rattle.jalwedd_host.specs.Parts.{ShowsGoodbye, ShowsItem, ShowsReason}
use Rattle.jalwedd_host.specs.Readings.{ShowsBlock}

-- What holds of each part holds of the one at an index.
at_index : {A : Type 0} (P : A → Type 0) (xs : List A) (index : ℕ) (x : A) → All P xs → slice_get xs index ≡ Some x →
    P x
at_index P xs index x all is =
    subst P (get_or_from_slice_get xs index x x is) (all index x (slice_get_within xs index x is))

-- ---- Items, BYEs and blocks

pub item : (datagram : List ℕ) (packets : List RtcpPacket) (index : ℕ) (part : ℕ × ItemValue) (place : ItemPlace)
    → AreOctets datagram → IsAccepted datagram packets → slice_get (all_items packets) index ≡ Some part
    → ShowsItem datagram place part → (1 ≤ place.kind) × (place.kind ≤ 255) × (place.size ≤ 255)
item datagram packets index part place octets accepted is shows =
    let fits : IsWritableItem part.1 =
    at_index (λ item. IsWritableItem item.1) (all_items packets) index part
    (wire.accepted_parts_are_writable-items datagram packets octets accepted) is in
    (omega (arith, fits.0, shows.1), omega (arith, fits.1, shows.1), omega (arith, fits.2, shows.2))

reason : (datagram : List ℕ) (place : GoodbyePlace) (text : Option (List ℕ)) → IsWritableReason text
    → ShowsReason datagram place text → place.size ≤ 255
reason datagram place None fits shows = omega (arith, shows.2)
reason datagram place (Some text) fits shows = omega (arith, fits, shows.1)

pub goodbye : (datagram : List ℕ) (packets : List RtcpPacket) (index : ℕ) (part : ℕ × Option (List ℕ))
    (place : GoodbyePlace) → AreOctets datagram → IsAccepted datagram packets
    → slice_get (all_goodbyes packets) index ≡ Some part → ShowsGoodbye datagram place part → place.size ≤ 255
goodbye datagram packets index part place octets accepted is shows =
    let fits : IsWritableReason part.1 =
    at_index (λ goodbye. IsWritableReason goodbye.1) (all_goodbyes packets) index part
    (wire.accepted_parts_are_writable-goodbyes datagram packets octets accepted) is in
    reason datagram place part.1 fits shows.1

pub block : (datagram : List ℕ) (packets : List RtcpPacket) (index : ℕ) (part : ℕ × ReportBlock) (report : Report)
    → AreOctets datagram → IsAccepted datagram packets → slice_get (all_blocks packets) index ≡ Some part
    → ShowsBlock report part → (negsuc 8388607 ≤ℤ report.lost) × (report.lost ≤ℤ pos 8388607)
block datagram packets index part report octets accepted is shows =
    let fits : IsWritableBlock part.1 =
    at_index (λ block. IsWritableBlock block.1) (all_blocks packets) index part
    (wire.accepted_parts_are_writable-blocks datagram packets octets accepted) is in
    let lost : part.1.lost ≡ report.lost = sym shows.3 in
    (subst (λ (n : ℤ). negsuc 8388607 ≤ℤ n) lost fits.0, subst (λ (n : ℤ). n ≤ℤ pos 8388607) lost fits.1)

-- ---- Packets of applications

abbrev AppFits : AppValue → Type 0
AppFits part = (part.subtype ≤ 31) × (length part.content % 4 ≡ 0)

packet_fits : (p : RtcpPacket) → IsWritable p → All AppFits (packet_apps p)
packet_fits (app subtype source name content) can =
    All-cons AppFits (record { ssrc = source; subtype = subtype; name = name; content = content }) [] can.parts
    (All-nil AppFits)
packet_fits p can = All-nil AppFits

apps_fit : (ps : List RtcpPacket) → All IsWritable ps → All AppFits (all_apps ps)
apps_fit [] can = All-nil AppFits
apps_fit (p ∷ ps) can =
    All-append AppFits (packet_apps p) (all_apps ps) (packet_fits p (All-head IsWritable p ps can))
    (apps_fit ps (All-tail IsWritable p ps can))

pub application : (datagram : List ℕ) (packets : List RtcpPacket) (index : ℕ) (part : AppValue) (place : AppPlace)
    → AreOctets datagram → IsAccepted datagram packets → slice_get (all_apps packets) index ≡ Some part
    → ShowsApp datagram place part → (place.subtype ≤ 31) × (place.size % 4 ≡ 0)
application datagram packets index part place octets accepted is shows =
    let fits : AppFits part =
    at_index AppFits (all_apps packets) index part
    (apps_fit packets (wire.accepted_packets_are_writable-writable datagram packets octets accepted)) is in
    (omega (arith, fits.0, shows.subtype), subst (λ (n : ℕ). n % 4 ≡ 0) (sym shows.size) fits.1)

-- ---- RTP heads

pub rtp_head : (datagram : List ℕ) (value : RtpValue) (spelled : IsRtpHead datagram value) (place : HeadPlace)
    → AreOctets datagram → ShowsHead datagram value spelled place
    → (place.payload_type < 128) × (IsReserved place.payload_type → ⊥) × (place.sequence < 65536) × (place.csrcs ≤ 15)
rtp_head datagram value spelled place octets shows =
    let kind = wire.heads_are_in_range-payload_type datagram value spelled in
    let sequence : value.sequence < 65536 = wire.heads_are_in_range-sequence datagram value octets spelled in
    let csrcs : length value.csrcs ≤ 15 = wire.heads_are_in_range-csrcs datagram value spelled in (
      omega (arith, kind.0, shows.payload_type),
      subst (λ (k : ℕ). IsReserved k → ⊥) (sym shows.payload_type) kind.1,
      omega (arith, sequence, shows.sequence),
      omega (arith, csrcs, shows.csrcs),
    )
