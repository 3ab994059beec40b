use Rattle.std.proofs.Common.{◌≡◌, drop}
use Rattle.std.specs.List.{flat_map}
use Rattle.core.specs.Char.Escape.{escape_ascii}
use Rattle.rtcp_print.proofs.PageLemmas.{Brings}
use Rattle.rtcp_print.proofs.plain.push_escaped.Given as goal

-- what is shown, and then the octets that are left
abbrev pub invariant-loop-octet : goal.invariant-loop-octet
invariant-loop-octet l = record {
  same : l.page.room.ghost_name ≡ l.initial.page.room.ghost_name;
  brings :
      Brings l.initial.page l.page (flat_map escape_ascii (drop l.octet-index l.text)) (flat_map escape_ascii l.text);
}
