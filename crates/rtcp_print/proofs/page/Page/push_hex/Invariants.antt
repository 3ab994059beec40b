use Rattle.std.proofs.Common.{◌≡◌, drop}
use Rattle.hex.specs.Hex.{encode_lower}
use Rattle.rtcp_print.proofs.PageLemmas.{Brings}
use Rattle.rtcp_print.proofs.page.Page.push_hex.Given as goal

-- what is shown, and then the digits of the octets that are left
abbrev pub invariant-loop-octet : goal.invariant-loop-octet
invariant-loop-octet l = record {
  same : l.self.room.ghost_name ≡ l.initial.self.room.ghost_name;
  brings : Brings l.initial.self l.self (encode_lower (drop l.octet-index l.octets)) (encode_lower l.octets);
}
