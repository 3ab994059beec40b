use Rattle.std.proofs.Common.{◌≡◌}
use Rattle.std.specs.List.{flat_map}
use Rattle.rtcp_print.specs.Pages.{Adds}
use Rattle.rtcp_print.proofs.joined.push_each.Given as goal

-- the texts of the values so far
abbrev pub invariant-loop-value : goal.invariant-loop-value
invariant-loop-value g l = record {
  same : l.page.room.ghost_name ≡ l.initial.page.room.ghost_name;
  adds : Adds l.initial.page l.page (flat_map (g.I.Item.Told.words l.rate) l.yielded);
}
