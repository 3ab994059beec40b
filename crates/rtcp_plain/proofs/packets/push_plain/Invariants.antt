use Rattle.std.proofs.Common.{◌≡◌, ◌++◌, codes}
use Rattle.std.specs.List.{flat_map}
use Rattle.rtcp_plain.specs.Plain.{packet_text}
use Rattle.rtcp_plain.proofs.packets.push_plain.Given as goal

-- what is written, and then the texts of the packets that are left
abbrev pub invariant-loop-packet : goal.invariant-loop-packet
invariant-loop-packet l =
    l.out.items ++ flat_map (packet_text l.rate) l.packet-iterator
    ≡ l.fn.out.items ++ (codes "ok" ++ flat_map (packet_text l.rate) l.compound)
