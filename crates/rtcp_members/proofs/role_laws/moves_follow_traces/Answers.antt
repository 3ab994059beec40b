use Rattle.rtcp_members.proofs.LawLemmas as law
use Rattle.rtcp_members.proofs.role_laws.moves_follow_traces.Goals as goal

pub returns : goal.returns
returns c = record {
  facts = law.moves_follow_traces-facts;
  check = law.moves_follow_traces-check;
  forgotten = law.moves_follow_traces-forgotten;
}
