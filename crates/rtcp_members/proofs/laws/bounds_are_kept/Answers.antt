use Rattle.rtcp_members.proofs.LawLemmas.{bounds_are_kept-fact, bounds_are_kept-facts, bounds_are_kept-check, bounds_are_kept-block, bounds_are_kept-forgotten, bounds_are_kept-blocks}
use Rattle.rtcp_members.proofs.laws.bounds_are_kept.Goals as goal

pub returns : goal.returns
returns c = record {
  fact = bounds_are_kept-fact;
  facts = bounds_are_kept-facts;
  check = bounds_are_kept-check;
  block = bounds_are_kept-block;
  forgotten = bounds_are_kept-forgotten;
  blocks = bounds_are_kept-blocks;
}
