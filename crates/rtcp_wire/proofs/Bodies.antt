-- A body says one packet, and has room for what it must hold.
use Rattle.std.proofs.Common.{◌≡◌, ℕ, ◌*◌, ◌≤◌, List, ◌++◌, length, Option, Some, None, refl, sym, ap, subst, ◌∙◌, arith}
use Rattle.std.proofs.lemmas.Bool.{ne_eqb}
use Rattle.std.proofs.lemmas.List.{length-append}
use Rattle.byteorder.specs.Endian.{big_number}
use Rattle.rtcp_wire.specs.Values.{SenderValue, ReportBlock, RtcpPacket, sr, rr, sdes, bye, app, other}
use Rattle.rtcp_wire.specs.Grammar.{IsBlock, IsId, IsReportEnd, IsSenderReport, IsReport, IsChunk, IsReason, IsReasonPart, IsGoodbye, IsApplication, IsOtherType, IsBody}
use Rattle.rtcp_wire.specs.Readings.{block_in, sender_in}
use Rattle.rtcp_wire.specs.Faults.{least_size}
use Rattle.rtcp_wire.proofs.Joining.{same_count, same_whole}
use Rattle.rtcp_wire.proofs.Prefixes.{cons_parts, cons_not_nil, same_prefixes, cut_prefix, length_parts}
use Rattle.rtcp_wire.proofs.Fixed.{one_block, one_id, fixed_length}
use Rattle.rtcp_wire.proofs.ChunkPrefixes.{one_chunk, chunk_has_octets}

-- ---- Reports

-- Under a count octets are one list of blocks and one extension.
same_report_end : (count : ℕ) (bs cs : List ReportBlock) (x y octets : List ℕ) → IsReportEnd bs x count octets →
    IsReportEnd cs y count octets → (bs ≡ cs) × (x ≡ y)
same_report_end count bs cs x y octets h k =
    let whole : h.reports ++ x ≡ k.reports ++ y = sym h.parts ∙ k.parts in
    let blocks = same_count IsBlock one_block bs cs h.reports k.reports x y h.each k.each whole
    (h.counted ∙ sym k.counted) in
    (blocks.1, cut_prefix h.reports k.reports x y blocks.0 whole)

-- Under a count a body says one sender report,
same_sender_report : (v w : SenderValue) (count : ℕ) (bs cs : List ReportBlock) (x y body : List ℕ) →
    IsSenderReport v bs x count body → IsSenderReport w cs y count body → sr v bs x ≡ sr w cs y
same_sender_report v w count bs cs x y body h k =
    let prefixes = same_prefixes h.prefix k.prefix h.rest k.rest (h.prefix_size ∙ sym k.prefix_size)
    (sym h.parts ∙ k.parts) in
    let ends = same_report_end count bs cs x y h.rest h.ends
    (subst (λ (t : List ℕ). IsReportEnd cs y count t) (sym prefixes.1) k.ends) in
    let sender : v ≡ w = h.says ∙ ap sender_in prefixes.0 ∙ sym k.says in
    let blocks : bs ≡ cs = ends.0 in
    let extension : x ≡ y = ends.1 in
    cc

-- and one receiver report.
same_report : (i j count : ℕ) (bs cs : List ReportBlock) (x y body : List ℕ) → IsReport i bs x count body →
    IsReport j cs y count body → rr i bs x ≡ rr j cs y
same_report i j count bs cs x y body h k =
    let ids = same_prefixes h.id k.id h.rest k.rest (h.sender.0 ∙ sym k.sender.0) (sym h.parts ∙ k.parts) in
    let ends = same_report_end count bs cs x y h.rest h.ends
    (subst (λ (t : List ℕ). IsReportEnd cs y count t) (sym ids.1) k.ends) in
    let sender : i ≡ j = h.sender.1 ∙ ap (big_number 4) ids.0 ∙ sym k.sender.1 in
    let blocks : bs ≡ cs = ends.0 in
    let extension : x ≡ y = ends.1 in
    cc

-- ---- BYEs

-- The length octet says where the text ends.
same_reason : (text other_text octets : List ℕ) → IsReason text octets → IsReason other_text octets → text ≡ other_text
same_reason text other_text octets h k =
    let parts = cons_parts (length text) (length other_text) (text ++ h.free) (other_text ++ k.free)
    (sym h.parts ∙ k.parts) in
    (same_prefixes text other_text h.free k.free parts.0 parts.1).0

-- Octets after the identifiers are a reason or none.
same_reason_part : (reason other_reason : Option (List ℕ)) (octets : List ℕ) → IsReasonPart reason octets →
    IsReasonPart other_reason octets → reason ≡ other_reason
same_reason_part None None octets h k = refl
same_reason_part None (Some text) octets h k = absurd (cons_not_nil (length text) (text ++ k.free) (sym k.parts ∙ h))
same_reason_part (Some text) None octets h k = absurd (cons_not_nil (length text) (text ++ h.free) (sym h.parts ∙ k))
same_reason_part (Some text) (Some other_text) octets h k = ap Some (same_reason text other_text octets h k)

-- Under a count a body says one BYE.
same_goodbye : (count : ℕ) (is js : List ℕ) (r q : Option (List ℕ)) (body : List ℕ) → IsGoodbye is r count body →
    IsGoodbye js q count body → bye is r ≡ bye js q
same_goodbye count is js r q body h k =
    let whole : h.prefix ++ h.rest ≡ k.prefix ++ k.rest = sym h.parts ∙ k.parts in
    let ids = same_count IsId one_id is js h.prefix k.prefix h.rest k.rest h.each k.each whole
    (h.counted ∙ sym k.counted) in
    let rests = cut_prefix h.prefix k.prefix h.rest k.rest ids.0 whole in
    let reason : r ≡ q = same_reason_part r q h.rest h.ends
    (subst (λ (t : List ℕ). IsReasonPart q t) (sym rests) k.ends) in
    let sources : is ≡ js = ids.1 in
    cc

-- ---- Applications

-- A body says one application's packet.
same_application : (l m i j : ℕ) (n o x y body : List ℕ) → l ≡ m → IsApplication i n x body → IsApplication j o y body →
    app l i n x ≡ app m j o y
same_application l m i j n o x y body subtype h k =
    let ids = same_prefixes h.id k.id (n ++ x) (o ++ y) (h.source.0 ∙ sym k.source.0) (sym h.parts ∙ k.parts) in
    let names = same_prefixes n o x y (h.name_size ∙ sym k.name_size) ids.1 in
    let source : i ≡ j = h.source.1 ∙ ap (big_number 4) ids.0 ∙ sym k.source.1 in
    let name : n ≡ o = names.0 in
    let content : x ≡ y = names.1 in
    cc

-- ---- Packets

-- Under a type and a count a body says one packet.
pub same_body : (p q : RtcpPacket) (kind count : ℕ) (body : List ℕ) → IsBody p kind count body →
    IsBody q kind count body → p ≡ q
same_body (sr v bs x) (sr w cs y) kind count body h k = same_sender_report v w count bs cs x y body h.1 k.1
same_body (rr i bs x) (rr j cs y) kind count body h k = same_report i j count bs cs x y body h.1 k.1
same_body (sdes bs) (sdes cs) kind count body h k =
    ap sdes (same_whole IsChunk one_chunk chunk_has_octets bs cs body h.2 k.2)
same_body (bye is r) (bye js q) kind count body h k = same_goodbye count is js r q body h.1 k.1
same_body (app l i n x) (app m j o y) kind count body h k = same_application l m i j n o x y body (h.1 ∙ sym k.1) h.2
    k.2
same_body (other l m b) (other n o c) kind count body h k =
    let kinds : l ≡ n = h.1 ∙ sym k.1 in
    let counts : m ≡ o = h.2 ∙ sym k.2 in
    let bodies : b ≡ c = h.3 ∙ sym k.3 in
    cc
same_body p q kind count body h k = absurd (omega (arith, h.0, k.0))

-- ---- Room

-- A type that is not looked into asks for no octets.
pub least_other : (kind count : ℕ) → IsOtherType kind → least_size kind count ≡ 0
least_other kind count is_other =
    let not_sr = ne_eqb kind 200 (λ e. omega (arith, e, is_other)) in
    let not_rr = ne_eqb kind 201 (λ e. omega (arith, e, is_other)) in
    let not_bye = ne_eqb kind 203 (λ e. omega (arith, e, is_other)) in
    let not_app = ne_eqb kind 204 (λ e. omega (arith, e, is_other)) in
    rw (not_sr, not_rr, not_bye, not_app) refl

-- how long blocks and an extension are
report_end_length : (count : ℕ) (bs : List ReportBlock) (x octets : List ℕ) → IsReportEnd bs x count octets →
    24 * count ≤ length octets
report_end_length count bs x octets h =
    omega (arith, length_parts octets h.reports x h.parts, fixed_length 24 block_in bs h.reports h.each, h.counted)

-- at the packet's own type
room_at : (own kind count : ℕ) (body : List ℕ) → kind ≡ own → least_size own count ≤ length body →
    least_size kind count ≤ length body
room_at own kind count body is room = subst (λ (k : ℕ). least_size k count ≤ length body) (sym is) room

-- A body has room for what its packet must hold.
pub body_room : (p : RtcpPacket) (kind count : ℕ) (body : List ℕ) → IsBody p kind count body →
    least_size kind count ≤ length body
body_room (sr v bs x) kind count body h =
    room_at 200 kind count body h.0
    (omega (
      arith,
      length_parts body h.1.prefix h.1.rest h.1.parts,
      h.1.prefix_size,
      report_end_length count bs x h.1.rest h.1.ends,
    ))
body_room (rr i bs x) kind count body h =
    room_at 201 kind count body h.0
    (omega (
      arith,
      length_parts body h.1.id h.1.rest h.1.parts,
      h.1.sender.0,
      report_end_length count bs x h.1.rest h.1.ends,
    ))
body_room (sdes chunks) kind count body h = room_at 202 kind count body h.0 (omega arith)
body_room (bye ids reason) kind count body h =
    room_at 203 kind count body h.0
    (omega (
      arith,
      length_parts body h.1.prefix h.1.rest h.1.parts,
      fixed_length 4 (big_number 4) ids h.1.prefix h.1.each,
      h.1.counted,
    ))
body_room (app l i n x) kind count body h =
    room_at 204 kind count body h.0
    (omega (arith, length_parts body h.2.id (n ++ x) h.2.parts, length-append n x, h.2.source.0, h.2.name_size))
body_room (other l m b) kind count body h = omega (arith, least_other kind count h.0)
