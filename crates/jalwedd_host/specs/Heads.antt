-- How the head of an RTP datagram is told to a host in C.
use Rattle.std.specs.Prelude.{◌≡◌, ℕ, ◌+◌, List, length}
use Rattle.rtcp_wire.specs.Placed.{StandsIn}
use Rattle.rtcp_wire.specs.declared.rtp.fault.RtpFault.{RtpFault}
use Rattle.rtcp_wire.specs.declared.rtp.fault.RtpFault.TheVariants.{Short, Version, PayloadType, Extension, Padding}
use Rattle.rtcp_wire.specs.RtpHeads.{IsRtpHead}
use Rattle.jalwedd_host.specs.Answers.{one_if}
use Rattle.jalwedd_host.specs.declared.head.HeadPlace.{HeadPlace}
use Rattle.jalwedd_host.specs.declared.reading.Fault.{Fault}
use Rattle.rtcp_wire.specs.Values.{RtpValue}

-- What the fields of a head say, and where its CSRCs and its payload stand: the CSRCs, a word each, after the fixed
-- part, and the payload after the extension and before the padding (RFC 3550, 5.1).
pub record ShowsHead
    (octets : List ℕ) (head : RtpValue) (spelled : IsRtpHead octets head) (shown : HeadPlace) : Type 0 where
  pub payload_type : shown.payload_type ≡ head.payload_type
  pub marker : shown.marker ≡ one_if head.marker
  pub sequence : shown.sequence ≡ head.sequence
  pub timestamp : shown.timestamp ≡ head.timestamp
  pub ssrc : shown.ssrc ≡ head.ssrc
  pub csrcs : shown.csrcs ≡ length head.csrcs
  pub csrcs_offset : shown.csrcs_offset ≡ length spelled.fixed
  pub csrcs_stand : StandsIn shown.csrcs_offset spelled.sources octets
  pub payload_offset :
      shown.payload_offset ≡ length spelled.fixed + length spelled.sources + length spelled.extension
  pub payload_size : shown.payload_size ≡ length head.payload
  pub payload_stands : StandsIn shown.payload_offset head.payload octets

-- G1 to G5, by numbers that follow those of F1 to F10: each rule of either kind of datagram has a number of its own.
abbrev pub number_of_head_fault : RtpFault → ℕ
number_of_head_fault Short = 11
number_of_head_fault Version = 12
number_of_head_fault PayloadType = 13
number_of_head_fault Extension = 14
number_of_head_fault Padding = 15

-- A fault says the first one of an RTP datagram, which is one packet, from offset 0 on.
abbrev pub ShowsHeadFault : Fault → RtpFault → Type 0
ShowsHeadFault shown fault = (shown.reason ≡ number_of_head_fault fault) × (shown.offset ≡ 0)
