use Rattle.std.proofs.Common.{◌≡◌, map}
use Rattle.std.specs.List.{join_with_byte}
use Rattle.rtcp_print.specs.Pages.{Adds}
use Rattle.rtcp_print.proofs.Pieces.{is_none}
use Rattle.rtcp_print.proofs.joined.push_joined.Given as goal

-- the texts of the values so far, and whether there are none
abbrev pub invariant-loop-value : goal.invariant-loop-value
invariant-loop-value g l = record {
  same : l.page.room.ghost_name ≡ l.initial.page.room.ghost_name;
  first : l.is_first ≡ is_none l.yielded;
  adds : Adds l.initial.page l.page (join_with_byte l.separator (map g.I.Item.Shown.text l.yielded));
}
