use Rattle.rtcp_members.proofs.LawLemmas as law
use Rattle.rtcp_members.proofs.role_laws.heard_by_what_it_says.Goals as goal

pub returns : goal.returns
returns c = record {
  named = law.heard_by_what_it_says-named;
  named_moves = law.heard_by_what_it_says-named_moves;
  told = law.heard_by_what_it_says-told;
  told_moves = law.heard_by_what_it_says-told_moves;
}
