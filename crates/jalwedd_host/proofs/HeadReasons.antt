-- The number of a reason says which rule of an RTP head is broken, and no rule of a compound has it.
use Rattle.std.proofs.Common.{◌≡◌, ◌≤◌, refl, arith}
use Rattle.rtcp_wire.specs.declared.fault.FaultReason.{FaultReason}
use Rattle.rtcp_wire.specs.declared.rtp.fault.RtpFault.{RtpFault}
use Rattle.rtcp_wire.specs.declared.rtp.fault.RtpFault.TheVariants.{Short, Version, PayloadType, Extension, Padding}
use Rattle.jalwedd_host.specs.Heads.{number_of_head_fault}
use Rattle.jalwedd_host.specs.Readings.{number_of}
use Rattle.jalwedd_host.proofs.Reasons.{low}

high : (fault : RtpFault) → 11 ≤ number_of_head_fault fault
high Short = omega arith
high fault = omega arith

pub same_rule : (one other : RtpFault) → number_of_head_fault one ≡ number_of_head_fault other → one ≡ other
same_rule Short Short same = refl
same_rule Version Version same = refl
same_rule PayloadType PayloadType same = refl
same_rule Extension Extension same = refl
same_rule Padding Padding same = refl
same_rule one other same = absurd (omega (arith, same))

pub apart : (reason : FaultReason) (fault : RtpFault) → number_of reason ≡ number_of_head_fault fault → ⊥
apart reason fault same = omega (arith, low reason, high fault, same)
