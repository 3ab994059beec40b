use Rattle.rtcp_members.proofs.LawLemmas.{capacity_is_kept-none, capacity_is_kept-fact, capacity_is_kept-facts, capacity_is_kept-check, capacity_is_kept-block, capacity_is_kept-forgotten, capacity_is_kept-blocks}
use Rattle.rtcp_members.proofs.laws.capacity_is_kept.Goals as goal

pub returns : goal.returns
returns c = record {
  none = capacity_is_kept-none;
  fact = capacity_is_kept-fact;
  facts = capacity_is_kept-facts;
  check = capacity_is_kept-check;
  block = capacity_is_kept-block;
  forgotten = capacity_is_kept-forgotten;
  blocks = capacity_is_kept-blocks;
}
