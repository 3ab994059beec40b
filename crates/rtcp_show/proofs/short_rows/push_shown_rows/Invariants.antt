use Rattle.std.proofs.Common.{◌≡◌, ◌++◌, map, take}
use Rattle.std.specs.List.{flat_map}
use Rattle.rtcp_members.specs.ListViews.{state_value}
use Rattle.rtcp_show.specs.Flows.{flow_in}
use Rattle.rtcp_show.specs.Notes.{noted_in}
use Rattle.rtcp_show.specs.ShortRows.{shown_row_text}
use Rattle.rtcp_show.proofs.short_rows.push_shown_rows.Given as goal

-- the rows so far
abbrev pub invariant-loop-state : goal.invariant-loop-state
invariant-loop-state l =
    l.out.items ≡ l.initial.out.items
    ++ flat_map (shown_row_text l.most l.ranks (noted_in l.notes) (flow_in l.flows))
    (map state_value (take l.state-index l.listing))
