use Rattle.std.proofs.Common.{◌≡◌, ◌++◌}
use Rattle.std.specs.List.{flat_map}
use Rattle.rtcp_plain.specs.Blocks.{rows_of_packet}
use Rattle.rtcp_plain.proofs.blocks.push_blocks.Given as goal

-- what is written, and then the rows of the packets that are left
abbrev pub invariant-loop-packet : goal.invariant-loop-packet
invariant-loop-packet l =
    l.out.items ++ flat_map rows_of_packet l.packet-iterator ≡ l.fn.out.items ++ flat_map rows_of_packet l.compound
