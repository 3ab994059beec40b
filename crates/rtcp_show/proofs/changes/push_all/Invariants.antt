use Rattle.std.proofs.Common.{◌≡◌, ◌++◌}
use Rattle.std.specs.List.{flat_map}
use Rattle.rtcp_show.specs.Changes.{change_text}
use Rattle.rtcp_show.specs.Times.{when_text}
use Rattle.rtcp_show.proofs.changes.push_all.Given as goal

-- what is written, and then the changes that are left
abbrev pub invariant-loop-change : goal.invariant-loop-change
invariant-loop-change l =
    l.out.items ++ flat_map (change_text (when_text l.when)) l.change-iterator
    ≡ l.initial.out.items ++ flat_map (change_text (when_text l.when)) l.initial.change-iterator
