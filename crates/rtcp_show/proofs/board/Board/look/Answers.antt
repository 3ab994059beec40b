-- After all sources those that are listed were looked at, and their notes are kept.
use Rattle.rtcp_engine.specs.answers.Histories.{life_at, setup_at}
use Rattle.rtcp_show.specs.Flows.{elapsed_since, flow_in}
use Rattle.rtcp_show.specs.Kept.{kept_of}
use Rattle.rtcp_show.specs.Listings.{state_at}
use Rattle.rtcp_show.proofs.FlowLemmas.{flows_kept, notes_kept}
use Rattle.rtcp_show.proofs.ListingLemmas.{state_in_walk}
use Rattle.rtcp_show.proofs.board.Board.look.Goals as goal

pub returns-clause-looks : goal.returns-clause-looks
returns-clause-looks g c = λ history stands.
    let before = c.args.self.now in
    let walk = c.sources-state-items.ensures history stands in
    let told = state_in_walk (setup_at history) (life_at history) in
    record {
      notes = λ ssrc. notes_kept (state_at history ssrc) (kept_of before.notes ssrc) (kept_of c.loop-state.notes ssrc)
          (rw (
            c.in-None.ensures.steps.0,
            c.into_iter-state-iterator.ensures.into_iter_gives,
            told ssrc c.sources-state-items.result walk,
            c.new-notes.ensures ssrc,
          ) at (c.loop-state.invariant.notes ssrc));
      flows = λ ssrc. flows_kept (elapsed_since before.looked c.args.now) (state_at history ssrc)
          (flow_in before.flows ssrc) (flow_in c.loop-state.flows ssrc)
          (rw (
            c.in-None.ensures.steps.0,
            c.into_iter-state-iterator.ensures.into_iter_gives,
            told ssrc c.sources-state-items.result walk,
            c.new-flows.ensures ssrc,
            c.max-elapsed.ensures,
            c.saturating_sub.ensures,
          ) at (c.loop-state.invariant.flows ssrc));
      looked = c.loop-state.invariant.looked;
    }
