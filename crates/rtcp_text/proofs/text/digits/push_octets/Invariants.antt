use Rattle.std.proofs.Common.{◌≡◌, ◌++◌, ◌≤◌, ◌-◌, drop, length}
use Rattle.hex.specs.Hex.{encode_lower}
use Rattle.rtcp_text.proofs.text.digits.push_octets.Given as goal

-- what is written, and then the digits of the rest
abbrev pub invariant-front : goal.invariant-front
invariant-front l = record {
  within : l.done ≤ length l.octets;
  written : l.out.items ++ encode_lower (drop l.done l.octets) ≡ l.fn.out.items ++ encode_lower l.octets;
}

abbrev pub decreases-front : goal.decreases-front
decreases-front l = length l.octets - l.done

abbrev pub invariant-rest : goal.invariant-rest
invariant-rest l = l.out.items ++ encode_lower (drop l.i l.octets) ≡ l.fn.out.items ++ encode_lower l.octets
