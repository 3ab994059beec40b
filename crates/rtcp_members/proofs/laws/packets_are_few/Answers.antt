use Rattle.rtcp_members.proofs.LawLemmas.{packets_are_few-none, packets_are_few-fact, packets_are_few-facts, packets_are_few-check, packets_are_few-block, packets_are_few-forgotten, packets_are_few-more, packets_are_few-apply}
use Rattle.rtcp_members.proofs.laws.packets_are_few.Goals as goal

pub returns : goal.returns
returns c = record {
  none = packets_are_few-none;
  fact = packets_are_few-fact;
  facts = packets_are_few-facts;
  check = packets_are_few-check;
  block = packets_are_few-block;
  forgotten = packets_are_few-forgotten;
  more = packets_are_few-more;
  apply = packets_are_few-apply;
}
