use Rattle.std.proofs.Common.{◌≡◌, ◌++◌, drop}
use Rattle.std.specs.List.{flat_map}
use Rattle.core.specs.Char.Escape.{escape_ascii}
use Rattle.rtcp_plain.proofs.numbers.push_escaped.Given as goal

-- what is written, and then the octets that are left
abbrev pub invariant-loop-octet : goal.invariant-loop-octet
invariant-loop-octet l =
    l.out.items ++ flat_map escape_ascii (drop l.octet-index l.text) ≡ l.fn.out.items ++ flat_map escape_ascii l.text
