use Rattle.std.proofs.Common.{◌≡◌, ◌-◌, ◌*◌, ◌≤◌, take, drop, length}
use Rattle.hex.specs.Hex.{decode_pairs as octets_from}
use Rattle.hex.proofs.Pairs.{prepend}
use Rattle.rtcp_text.proofs.digit_pairs.decode_pairs.Given as goal

-- the octets so far, and what the rest of the line spells
abbrev pub invariant-front : goal.invariant-front
invariant-front l = record {
  whole : length l.line ≡ 2 * length l.octets;
  within : l.done ≤ length l.octets;
  spelled : octets_from 0 l.line ≡ prepend (take l.done l.octets) (octets_from (2 * l.done) (drop (2 * l.done) l.line));
}

abbrev pub decreases-front : goal.decreases-front
decreases-front l = length l.octets - l.done

abbrev pub invariant-octets : goal.invariant-octets
invariant-octets l = record {
  whole : length l.line ≡ 2 * length l.octets;
  spelled : octets_from 0 l.line ≡ prepend (take l.i l.octets) (octets_from (2 * l.i) (drop (2 * l.i) l.line));
}
