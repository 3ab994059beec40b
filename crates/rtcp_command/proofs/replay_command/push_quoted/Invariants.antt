use Rattle.std.proofs.Common.{◌≡◌, ◌++◌, codes, drop}
use Rattle.std.specs.List.{flat_map}
use Rattle.rtcp_command.specs.ReplayCommand.{quoted_octet}
use Rattle.rtcp_command.proofs.replay_command.push_quoted.Given as goal

-- what is written, and then the octets that are left
abbrev pub invariant-loop-octet : goal.invariant-loop-octet
invariant-loop-octet l =
    l.out.items ++ flat_map quoted_octet (drop l.octet-index l.text)
    ≡ l.fn.out.items ++ codes "'" ++ flat_map quoted_octet l.text
