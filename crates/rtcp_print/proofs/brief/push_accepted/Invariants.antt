use Rattle.std.proofs.Common.{◌≡◌, ◌++◌, codes}
use Rattle.std.specs.List.{flat_map}
use Rattle.rtcp_text.specs.Text.{packet_text}
use Rattle.rtcp_print.proofs.PageLemmas.{Brings}
use Rattle.rtcp_print.proofs.brief.push_accepted.Given as goal

-- what is shown, and then the texts of the packets that are left
abbrev pub invariant-loop-packet : goal.invariant-loop-packet
invariant-loop-packet l = record {
  same : l.page.room.ghost_name ≡ l.initial.page.room.ghost_name;
  brings :
      Brings l.initial.page l.page (flat_map (λ packet. codes " " ++ packet_text packet) l.packet-iterator)
      (flat_map (λ packet. codes " " ++ packet_text packet) l.compound);
}
