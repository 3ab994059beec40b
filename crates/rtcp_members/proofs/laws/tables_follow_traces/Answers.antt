use Rattle.rtcp_members.proofs.LawLemmas.{tables_follow_traces-none, tables_follow_traces-fact, tables_follow_traces-facts, tables_follow_traces-check, tables_follow_traces-block, tables_follow_traces-forgotten}
use Rattle.rtcp_members.proofs.laws.tables_follow_traces.Goals as goal

pub returns : goal.returns
returns c = record {
  none = tables_follow_traces-none;
  fact = tables_follow_traces-fact;
  facts = tables_follow_traces-facts;
  check = tables_follow_traces-check;
  block = tables_follow_traces-block;
  forgotten = tables_follow_traces-forgotten;
}
