use Rattle.std.proofs.Common.{◌≡◌, ◌*◌, ◌<◌, ◌≤◌, ◌∙◌, ℕ, List, length, drop, sym, ap, subst, arith, Err}
use Rattle.std.proofs.lemmas.Result.{err_from_is_err_and}
use Rattle.std.proofs.lemmas.List.{length-drop}
use Rattle.byteorder.specs.Endian.{big_number}
use Rattle.rtcp_wire.specs.declared.rtp.fault.RtpFault.{RtpFault}
use Rattle.rtcp_wire.specs.declared.rtp.fault.RtpFault.TheVariants.{Short, Version, PayloadType}
use Rattle.rtcp_wire.specs.RtpHeads.{rtp_version_of, has_padding, has_extension, csrc_count_of, marker_of, payload_type_of, IsReserved, IsRtpHead, IsRtpFault, csrcs_in, lists_size, FindsAround}
use Rattle.rtcp_wire.proofs.RtpFaults.{same_fault, one_head, one_fault, never_both, is_short, is_version, is_payload_type}
use Rattle.rtcp_wire.proofs.ReadingRtp.{HasRoom, has_room, after_list, list_taken, few_csrcs, free_type, IsBeforeExtension, around_exit, head_read}
use Rattle.rtcp_wire.proofs.rtp.head.RtpHead.read.Goals as goal
use Rattle.rtcp_wire.proofs.rtp.head.RtpHead.read.Goals.{After-left, After-rest}
use Rattle.rtcp_wire.specs.Values.{RtpValue}

-- ---- How far the reader has come

-- The fixed part was taken, and there is room for the CSRC list.
begun : (c : After-left) → 4 * c.from-csrcs_size.result ≤ c.left.result →
    HasRoom c.args.octets.now c.take_fixed-fixed.new.reader (4 * c.from-csrcs_size.result)
begun c enough =
    let fixed = c.take_fixed-fixed.ensures in
    let made = c.new-reader.ensures in
    let size = ap (λ (n : ℕ). 4 * n) (c.from-csrcs_size.ensures ∙ fixed.csrc_count ∙ ap csrc_count_of made) in
    has_room c.args.octets.now c.take_fixed-fixed.new.reader (4 * c.from-csrcs_size.result)
    c.if-octets-lt-FIXED_SIZE.false (fixed.rest ∙ ap (drop 12) made) size (omega (arith, c.left.ensures, enough))

-- The CSRC list was taken too.
before_extension : (c : After-rest) → HasRoom c.args.octets.now c.take_fixed-fixed.new.reader
    (4 * c.from-csrcs_size.result)
    → IsBeforeExtension c.args.octets.now c.rest.result.now c.take_fixed-fixed.result.has_extension
before_extension c room =
    let octets = c.args.octets.now in
    let fixed = c.take_fixed-fixed.ensures in
    let made = c.new-reader.ensures in
    record {
      room = room.room;
      version = sym (fixed.version ∙ ap rtp_version_of made) ∙ c.if-fixed-ne-VERSION.false;
      not_reserved = free_type octets c.take_fixed-fixed.result.payload_type c.is_reserved.result
          (fixed.payload_type ∙ ap payload_type_of made) c.is_reserved.ensures c.if-is_reserved.false;
      bit = fixed.has_extension ∙ ap has_extension made;
      following = c.rest.ensures ∙ c.take-csrcs.ensures.rest ∙ after_list octets c.take_fixed-fixed.new.reader
          (4 * c.from-csrcs_size.result) room;
    }

-- ---- Fewer octets than are counted

pub returns-then-left-csrcs_size-clause-reads : goal.returns-then-left-csrcs_size-clause-reads
returns-then-left-csrcs_size-clause-reads c =
    let octets = c.args.octets.now in
    let fixed = c.take_fixed-fixed.ensures in
    let made = c.new-reader.ensures in
    let few : length octets < lists_size octets =
    omega (
      arith,
      c.if-left-csrcs_size.true,
      c.left.ensures,
      ap length (fixed.rest ∙ ap (drop 12) made),
      length-drop 12 octets,
      c.from-csrcs_size.ensures,
      fixed.csrc_count ∙ ap csrc_count_of made,
    ) in
    λ head h. never_both octets head Short h (is_short octets few)

-- ---- Another version

pub returns-then-fixed-ne-VERSION-clause-finds : goal.returns-then-fixed-ne-VERSION-clause-finds
returns-then-fixed-ne-VERSION-clause-finds c =
    let octets = c.args.octets.now in
    let fixed = c.take_fixed-fixed.ensures in
    let made = c.new-reader.ensures in
    let room = begun (goal.at.returns-then-fixed-ne-VERSION-clause-finds c).After-left c.if-left-csrcs_size.false in
    let first = is_version octets room.room
    (λ e. c.if-fixed-ne-VERSION.true (fixed.version ∙ ap rtp_version_of made ∙ e)) in
    λ fault found. ap Err (one_fault octets Version fault first found)

-- ---- A payload type that is reserved

pub returns-then-is_reserved-clause-finds : goal.returns-then-is_reserved-clause-finds
returns-then-is_reserved-clause-finds c =
    let octets = c.args.octets.now in
    let fixed = c.take_fixed-fixed.ensures in
    let made = c.new-reader.ensures in
    let room = begun (goal.at.returns-then-is_reserved-clause-finds c).After-left c.if-left-csrcs_size.false in
    let kind = fixed.payload_type ∙ ap payload_type_of made in
    let reserved : IsReserved (payload_type_of octets) =
    subst IsReserved kind (c.is_reserved.ensures.0 c.if-is_reserved.true) in
    let first = is_payload_type octets room.room (sym (fixed.version ∙ ap rtp_version_of made)
    ∙ c.if-fixed-ne-VERSION.false) reserved in
    λ fault found. ap Err (one_fault octets PayloadType fault first found)

-- ---- What is wrong with the extension or the padding

found_around : (c : goal.After-from_residual) →
    (fault : RtpFault) × (c.from_residual.result ≡ Err fault) × IsRtpFault c.args.octets.now fault
found_around c =
    let octets = c.args.octets.now in
    let extended = c.take_fixed-fixed.result.has_extension in
    let padded = c.take_fixed-fixed.result.has_padding in
    let room = begun (goal.at.returns-in_err-payload-clause-refused c).After-left c.if-left-csrcs_size.false in
    let before = before_extension (goal.at.returns-in_err-payload-clause-refused c).After-rest room in
    let given = err_from_is_err_and c.from_residual.result c.from_residual.ensures.1 in
    let found = subst (λ f. FindsAround f extended padded c.rest.result.now) (sym given.2) c.in_err-payload.ensures in (
      given.0,
      given.1,
      around_exit octets c.rest.result.now extended padded given.0 before
          (c.take_fixed-fixed.ensures.has_padding ∙ ap has_padding c.new-reader.ensures) found,
    )

pub returns-in_err-payload-clause-refused : goal.returns-in_err-payload-clause-refused
returns-in_err-payload-clause-refused c = λ fault same. let found = found_around c in
    same_fault c.args.octets.now found.0 fault found.2 (sym found.1 ∙ same)

pub returns-in_err-payload-clause-reads : goal.returns-in_err-payload-clause-reads
returns-in_err-payload-clause-reads c = λ head h. let found = found_around c in
    absurd (never_both c.args.octets.now head found.0 h found.2)

pub returns-in_err-payload-clause-finds : goal.returns-in_err-payload-clause-finds
returns-in_err-payload-clause-finds c = λ fault first. let found = found_around c in
    found.1 ∙ ap Err (one_fault c.args.octets.now found.0 fault found.2 first)

-- ---- A packet

-- what the fields say
abbrev found_in : goal.In_ok-payload → RtpValue
found_in c = record {
  payload_type = c.take_fixed-fixed.result.payload_type;
  marker = c.take_fixed-fixed.result.marker;
  sequence = c.take_fixed-fixed.result.sequence;
  timestamp = c.take_fixed-fixed.result.timestamp;
  ssrc = c.take_fixed-fixed.result.ssrc;
  csrcs = csrcs_in c.take-csrcs.result.now;
  payload = c.in_ok-payload.payload.now;
}

is_packet : (c : goal.In_ok-payload) → IsRtpHead c.args.octets.now (found_in c)
is_packet c =
    let octets = c.args.octets.now in
    let fixed = c.take_fixed-fixed.ensures in
    let made = c.new-reader.ensures in
    let room = begun (goal.at.returns-clause-accepted c).After-left c.if-left-csrcs_size.false in
    let before = before_extension (goal.at.returns-clause-accepted c).After-rest room in
    head_read octets c.rest.result.now c.take_fixed-fixed.result.has_extension c.take_fixed-fixed.result.has_padding
    (found_in c) before (fixed.has_padding ∙ ap has_padding made) c.in_ok-payload.ensures
    (fixed.payload_type ∙ ap payload_type_of made) (fixed.marker ∙ ap marker_of made)
    (fixed.sequence ∙ ap (λ (t : List ℕ). big_number 2 (drop 2 t)) made)
    (fixed.timestamp ∙ ap (λ (t : List ℕ). big_number 4 (drop 4 t)) made)
    (fixed.ssrc ∙ ap (λ (t : List ℕ). big_number 4 (drop 8 t)) made)
    (ap csrcs_in (c.take-csrcs.ensures.taken ∙ list_taken octets c.take_fixed-fixed.new.reader
    (4 * c.from-csrcs_size.result) room))

pub invariant_of-result : goal.invariant_of-result
invariant_of-result c =
    let room = begun (goal.at.invariant_of-result c).After-left c.if-left-csrcs_size.false in
    rw c.take-csrcs.ensures.taken (few_csrcs c.args.octets.now c.take_fixed-fixed.new.reader
    (4 * c.from-csrcs_size.result) room)

pub returns-clause-accepted : goal.returns-clause-accepted
returns-clause-accepted c = is_packet c

pub returns-clause-reads : goal.returns-clause-reads
returns-clause-reads c = λ head h. one_head c.args.octets.now (found_in c) head (is_packet c) h

pub returns-clause-finds : goal.returns-clause-finds
returns-clause-finds c = λ fault found. absurd (never_both c.args.octets.now (found_in c) fault (is_packet c) found)
