use Rattle.std.proofs.Common.{◌≡◌, ◌++◌}
use Rattle.std.specs.List.{flat_map}
use Rattle.rtcp_show.specs.Flows.{flow_in}
use Rattle.rtcp_show.specs.Notes.{noted_in}
use Rattle.rtcp_show.specs.Rows.{full_row_text}
use Rattle.rtcp_show.specs.Times.{told_by}
use Rattle.rtcp_show.proofs.rows.push_sources.Given as goal

-- what is written, and then the rows of the sources that are left
abbrev pub invariant-loop-state : goal.invariant-loop-state
invariant-loop-state g l = record {
  can : (goal.iterator-loop-state g).can_next l.state-iterator;
  finite : (goal.iterator-loop-state g).is_finite l.state-iterator;
  written : l.out.items
      ++ flat_map (λ state. full_row_text (told_by l.clock) state (noted_in l.notes state.ssrc)
      (flow_in l.flows state.ssrc))
      l.state-iterator
      ≡ l.initial.out.items
      ++ flat_map (λ state. full_row_text (told_by l.clock) state (noted_in l.notes state.ssrc)
      (flow_in l.flows state.ssrc))
      l.initial.state-iterator;
}
