use Rattle.rtcp_members.proofs.LawLemmas as law
use Rattle.rtcp_members.proofs.role_laws.sole_sources_say_it_all.Goals as goal

pub returns : goal.returns
returns c = record {
  content = law.sole_sources_say_it_all-content;
  moves = law.sole_sources_say_it_all-moves;
}
