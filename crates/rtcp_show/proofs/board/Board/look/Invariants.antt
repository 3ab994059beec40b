use Rattle.std.proofs.Common.{◌≡◌, ℕ, is_some}
use Rattle.rtcp_show.specs.Flows.{flow_in}
use Rattle.rtcp_show.specs.Kept.{kept_of}
use Rattle.rtcp_show.specs.Listings.{state_in}
use Rattle.rtcp_show.proofs.FlowLemmas.{flow_to_come, note_to_come}
use Rattle.rtcp_show.proofs.board.Board.look.Given as goal

-- what is kept, and then the sources that are left
abbrev pub invariant-loop-state : goal.invariant-loop-state
invariant-loop-state g l = record {
  can : (goal.iterator-loop-state g).can_next l.state-iterator;
  finite : (goal.iterator-loop-state g).is_finite l.state-iterator;
  notes : (ssrc : ℕ) →
      note_to_come (is_some (state_in l.state-iterator ssrc)) (kept_of l.self.notes ssrc) (kept_of l.notes ssrc)
      ≡ note_to_come (is_some (state_in l.initial.state-iterator ssrc)) (kept_of l.initial.self.notes ssrc)
      (kept_of l.initial.notes ssrc);
  flows : (ssrc : ℕ) →
      flow_to_come l.elapsed (state_in l.state-iterator ssrc) (flow_in l.self.flows ssrc) (flow_in l.flows ssrc)
      ≡ flow_to_come l.elapsed (state_in l.initial.state-iterator ssrc) (flow_in l.initial.self.flows ssrc)
      (flow_in l.initial.flows ssrc);
  stay : l.self.flows ≡ l.initial.self.flows;
  rows : l.self.rows ≡ l.initial.self.rows;
  second : l.self.second ≡ l.initial.self.second;
  looked : l.self.looked ≡ l.initial.self.looked;
}
