use Rattle.std.proofs.Common.{◌≡◌, ◌++◌, map}
use Rattle.std.specs.List.{join_with_byte}
use Rattle.rtcp_text.proofs.Joined.{is_none}
use Rattle.rtcp_text.proofs.text.joined.push_joined.Given as goal

-- the texts of the values so far, and whether there are none
abbrev pub invariant-loop-value : goal.invariant-loop-value
invariant-loop-value g l = record {
  first : l.is_first ≡ is_none l.yielded;
  written : l.out.items ≡ l.initial.out.items ++ join_with_byte l.separator (map g.I.Item.Shown.text l.yielded);
}
