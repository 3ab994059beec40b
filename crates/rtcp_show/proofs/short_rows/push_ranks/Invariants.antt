use Rattle.std.proofs.Common.{◌≡◌, map, take}
use Rattle.rtcp_members.specs.ListViews.{state_value}
use Rattle.rtcp_show.specs.ShortRows.{rank_of}
use Rattle.rtcp_show.proofs.short_rows.push_ranks.Given as goal

-- the ranks so far
abbrev pub invariant-loop-state : goal.invariant-loop-state
invariant-loop-state l = l.ranks.items ≡ map rank_of (map state_value (take l.state-index l.listing))
