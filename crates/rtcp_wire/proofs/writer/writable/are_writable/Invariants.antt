use Rattle.std.proofs.Common.{All, map, take}
use Rattle.rtcp_wire.proofs.writer.writable.are_writable.Given as goal

abbrev pub invariant-loop-part : goal.invariant-loop-part
invariant-loop-part g l = All g.P.Part.may_be_written (map g.P.Part.view (take l.part-index l.parts))
