-- What octets say as an RTP packet, or why they are refused, computed. A law says that it is what `RtpHeads` says
-- of them, packet for packet and fault for fault (`rtp_readings_are_computed`).
use Rattle.std.specs.Prelude.{ℕ, ◌+◌, ◌-◌, ◌*◌, ◌/◌, ◌%◌, ◌==◌, not, ◌&&◌, ◌||◌, nat_lt, nat_le, if◌then◌else◌, Bool, List, length, take, drop, slice_index, Result, Ok, Err}
use Rattle.byteorder.specs.Endian.{big_number}
use Rattle.rtcp_wire.specs.declared.rtp.fault.RtpFault.{RtpFault}
use Rattle.rtcp_wire.specs.declared.rtp.fault.RtpFault.TheVariants.{Short, Version, PayloadType, Extension, Padding}
use Rattle.rtcp_wire.specs.Readings.{values_in}
use Rattle.rtcp_wire.specs.Values.{RtpValue}

-- What octets say, or the first fault of these tests. RFC 3550, 5.1: twelve octets stand in each packet, and then a
-- word for each CSRC that they count; the version is 2. RFC 3551, 6: types 72 to 76 are reserved, since with the marker
-- they are RTCP's packet types 200 to 204. Where their bits are set, an extension follows the CSRCs, and padding ends
-- the packet. An extension is 16 free bits, 16 bits that count its words, and these words (5.3.1). The last octet of
-- padding counts all of them and itself, so it is neither 0 nor more than there are. The payload stands between.
abbrev pub rtp_in : List ℕ → Result RtpValue RtpFault
rtp_in octets =
    let first : ℕ = slice_index octets 0 in
    let payload_type : ℕ = slice_index octets 1 % 128 in
    let csrc_count : ℕ = first % 16 in
    let after_csrcs : List ℕ = drop (12 + 4 * csrc_count) octets in
    let extension_size : ℕ = if first / 16 % 2 == 1 then 4 + 4 * big_number 2 (drop 2 after_csrcs) else 0 in
    let rest : List ℕ = drop extension_size after_csrcs in
    let is_padded : Bool = first / 32 % 2 == 1 in
    let padding : ℕ = if is_padded then slice_index rest (length rest - 1) else 0 in
    if nat_lt (length octets) (12 + 4 * csrc_count) then Err Short
    else if not (first / 64 == 2) then Err Version
    else if nat_le 72 payload_type && nat_le payload_type 76 then Err PayloadType
    else if nat_lt (length after_csrcs) extension_size then Err Extension
    else if is_padded && (padding == 0 || nat_lt (length rest) padding) then Err Padding
    else Ok (record {
      payload_type = payload_type;
      marker = slice_index octets 1 / 128 % 2 == 1;
      sequence = big_number 2 (drop 2 octets);
      timestamp = big_number 4 (drop 4 octets);
      ssrc = big_number 4 (drop 8 octets);
      csrcs = values_in 4 (big_number 4) csrc_count (drop 12 octets);
      payload = take (length rest - padding) rest;
    })
