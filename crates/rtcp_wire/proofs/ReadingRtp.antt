-- How far the reader of an RTP packet has come, and what it returns from there.
use Rattle.std.proofs.Common.{◌≡◌, ◌↔◌, ℕ, ◌*◌, ◌<◌, ◌≤◌, Bool, true, false, List, length, take, drop, sym, ap, subst, ◌∙◌, arith}
use Rattle.std.proofs.lemmas.List.{drop-drop, length-drop, length-take-le}
use Rattle.byteorder.specs.Endian.{big_number}
use Rattle.rtcp_wire.specs.declared.rtp.fault.RtpFault.{RtpFault}
use Rattle.rtcp_wire.specs.declared.rtp.fault.RtpFault.TheVariants.{Short, Version, PayloadType, Extension, Padding}
use Rattle.rtcp_wire.specs.RtpHeads.{rtp_version_of, has_padding, has_extension, csrc_count_of, marker_of, payload_type_of, IsReserved, extension_size, IsRtpHead, lists_size, after_csrcs, without_extension, after_extension, csrcs_in, IsRtpFault, IsPadded, without_padding, HoldsPayload, FindsAround}
use Rattle.rtcp_wire.proofs.RtpLists.{words_joined}
use Rattle.rtcp_wire.proofs.RtpHeading.{head_in, values_equal, head_made}
use Rattle.rtcp_wire.proofs.RtpFaults.{is_extension, is_padding, not_padded}
use Rattle.rtcp_wire.specs.Values.{RtpValue}

-- The fixed part was taken, and there is room for the CSRC list.
pub record HasRoom (octets reader : List ℕ) (csrcs_size : ℕ) : Type 0 where
  pub room : lists_size octets ≤ length octets
  pub size : csrcs_size ≡ 4 * csrc_count_of octets
  pub rest : reader ≡ drop 12 octets

pub has_room : (octets reader : List ℕ) (csrcs_size : ℕ) → 12 ≤ length octets → reader ≡ drop 12 octets →
    csrcs_size ≡ 4 * csrc_count_of octets → csrcs_size ≤ length reader → HasRoom octets reader csrcs_size
has_room octets reader csrcs_size fixed rest size enough =
    record { room = omega (arith, ap length rest, length-drop 12 octets); size = size; rest = rest }

-- what is left after the CSRC list
pub after_list : (octets reader : List ℕ) (csrcs_size : ℕ) → HasRoom octets reader csrcs_size →
    drop csrcs_size reader ≡ after_csrcs octets
after_list octets reader csrcs_size h =
    ap (λ (t : List ℕ). drop csrcs_size t) h.rest ∙ drop-drop csrcs_size 12 octets
    ∙ ap (λ (n : ℕ). drop n octets) (omega (arith, h.size))

-- the octets of the CSRC list
pub list_taken : (octets reader : List ℕ) (csrcs_size : ℕ) → HasRoom octets reader csrcs_size →
    take csrcs_size reader ≡ take (4 * csrc_count_of octets) (drop 12 octets)
list_taken octets reader csrcs_size h = ap (λ (n : ℕ). take n reader) h.size
    ∙ ap (λ (t : List ℕ). take (4 * csrc_count_of octets) t) h.rest

-- Four bits count them, so they are at most 15.
pub few_csrcs : (octets reader : List ℕ) (csrcs_size : ℕ) → HasRoom octets reader csrcs_size →
    length (csrcs_in (take csrcs_size reader)) ≤ 15
few_csrcs octets reader csrcs_size h =
    let count : ℕ = csrc_count_of octets in
    let words : List ℕ = take (4 * count) (drop 12 octets) in
    let size : length words ≡ 4 * count = length-take-le (4 * count) (drop 12 octets)
    (omega (arith, h.room, length-drop 12 octets)) in
    omega (
      arith,
      ap (λ (t : List ℕ). length (csrcs_in t)) (list_taken octets reader csrcs_size h),
      (words_joined count words size).1,
    )

-- A type that was not found reserved is free.
pub free_type : (octets : List ℕ) (kind : ℕ) (reserved : Bool) → kind ≡ payload_type_of octets →
    (reserved ≡ true) ↔ IsReserved kind → reserved ≡ false → IsReserved (payload_type_of octets) → ⊥
free_type octets kind reserved is tested free h =
    (let found : reserved ≡ true = tested.1 (subst IsReserved (sym is) h) in cc)

-- The tests before the extension's were passed, and this is left, and may begin with one.
pub record IsBeforeExtension (octets rest : List ℕ) (extended : Bool) : Type 0 where
  pub room : lists_size octets ≤ length octets
  pub version : rtp_version_of octets ≡ 2
  pub not_reserved : IsReserved (payload_type_of octets) → ⊥
  pub bit : extended ≡ has_extension octets
  pub following : rest ≡ after_csrcs octets

-- no room for the extension
extension_exit : (octets rest : List ℕ) (extended : Bool) → IsBeforeExtension octets rest extended →
    extended ≡ true → length rest < extension_size rest → IsRtpFault octets Extension
extension_exit octets rest extended h set few =
    is_extension octets h.room h.version h.not_reserved
    (sym h.bit ∙ set, subst (λ (t : List ℕ). length t < extension_size t) h.following few)

-- The extension has room, where there is one.
extension_fits : (octets rest : List ℕ) (extended : Bool) → IsBeforeExtension octets rest extended →
    (extended ≡ true → extension_size rest ≤ length rest) → has_extension octets ≡ true →
    extension_size (after_csrcs octets) ≤ length (after_csrcs octets)
extension_fits octets rest extended h room set =
    subst (λ (t : List ℕ). extension_size t ≤ length t) h.following (room (h.bit ∙ set))

-- what follows it
extension_passed : (octets rest : List ℕ) (extended : Bool) → IsBeforeExtension octets rest extended →
    without_extension extended rest ≡ after_extension octets
extension_passed octets rest extended h =
    ap (λ (x : Bool). without_extension x rest) h.bit
    ∙ ap (λ (t : List ℕ). without_extension (has_extension octets) t) h.following

-- What is wrong with the extension or the padding is the packet's fault.
pub around_exit : (octets rest : List ℕ) (extended padded : Bool) (fault : RtpFault) →
    IsBeforeExtension octets rest extended → padded ≡ has_padding octets → FindsAround fault extended padded rest →
    IsRtpFault octets fault
around_exit octets rest extended padded Short h bit found = absurd found
around_exit octets rest extended padded Version h bit found = absurd found
around_exit octets rest extended padded PayloadType h bit found = absurd found
around_exit octets rest extended padded Extension h bit found = extension_exit octets rest extended h found.0 found.1
around_exit octets rest extended padded Padding h bit found =
    is_padding octets h.room h.version h.not_reserved (extension_fits octets rest extended h found.0) (
      sym bit ∙ found.1,
      not_padded (after_extension octets)
          (subst (λ (t : List ℕ). IsPadded t → ⊥) (extension_passed octets rest extended h) found.2),
    )

-- the packet, where its payload was found
pub head_read : (octets rest : List ℕ) (extended padded : Bool) (head : RtpValue) →
    IsBeforeExtension octets rest extended → padded ≡ has_padding octets →
    HoldsPayload extended padded rest head.payload
    → head.payload_type ≡ payload_type_of octets → head.marker ≡ marker_of octets →
    head.sequence ≡ big_number 2 (drop 2 octets) → head.timestamp ≡ big_number 4 (drop 4 octets) →
    head.ssrc ≡ big_number 4 (drop 8 octets)
    → head.csrcs ≡ csrcs_in (take (4 * csrc_count_of octets) (drop 12 octets)) → IsRtpHead octets head
head_read octets rest extended padded head h bit holds kind marker sequence timestamp ssrc sources =
    let left : without_extension extended rest ≡ after_extension octets = extension_passed octets rest extended h in
    head_made octets head (record {
      room = h.room;
      version = h.version;
      not_reserved = h.not_reserved;
      extension = extension_fits octets rest extended h holds.extension;
      padding = λ set. subst IsPadded left (holds.padding (bit ∙ set));
      says = values_equal head (head_in octets) kind marker sequence timestamp ssrc sources
          (holds.is ∙ ap (λ (x : Bool). without_padding x (without_extension extended rest)) bit
          ∙ ap (λ (t : List ℕ). without_padding (has_padding octets) t) left);
    })
