use Rattle.std.proofs.Common.{◌≡◌, ◌++◌, codes}
use Rattle.std.specs.List.{flat_map}
use Rattle.rtcp_text.specs.Text.{packet_text}
use Rattle.rtcp_text.proofs.text.push_accepted.Given as goal

-- what is written, and then the texts of the packets that are left
abbrev pub invariant-loop-packet : goal.invariant-loop-packet
invariant-loop-packet l =
    l.out.items ++ flat_map (λ packet. codes " " ++ packet_text packet) l.packet-iterator
    ≡ l.fn.out.items ++ (codes "ok" ++ flat_map (λ packet. codes " " ++ packet_text packet) l.compound)
