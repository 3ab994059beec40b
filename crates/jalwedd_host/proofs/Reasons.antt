-- The number of a reason says which rule of a compound is broken.
use Rattle.std.proofs.Common.{◌≡◌, ◌≤◌, refl, arith}
use Rattle.rtcp_wire.specs.declared.fault.FaultReason.{FaultReason}
use Rattle.rtcp_wire.specs.declared.fault.FaultReason.TheVariants.{Short, Version, FirstType, FirstPadding, Length, Padding, Body, Item, Reason, TooLong}
use Rattle.jalwedd_host.specs.Readings.{number_of}

pub low : (reason : FaultReason) → number_of reason ≤ 10
low Short = omega arith
low reason = omega arith

pub same_rule : (one other : FaultReason) → number_of one ≡ number_of other → one ≡ other
same_rule Short Short same = refl
same_rule Version Version same = refl
same_rule FirstType FirstType same = refl
same_rule FirstPadding FirstPadding same = refl
same_rule Length Length same = refl
same_rule Padding Padding same = refl
same_rule Body Body same = refl
same_rule Item Item same = refl
same_rule Reason Reason same = refl
same_rule TooLong TooLong same = refl
same_rule one other same = absurd (omega (arith, same))
