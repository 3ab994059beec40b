use Rattle.rtcp_members.proofs.LawLemmas as law
use Rattle.rtcp_members.proofs.role_laws.roles_move_with_counts.Goals as goal

pub returns : goal.returns
returns c = record {
  kept = law.roles_move_with_counts-kept;
  moved = law.roles_move_with_counts-moved;
  within = law.roles_move_with_counts-within;
  block = law.roles_move_with_counts-block;
  none = law.roles_move_with_counts-none;
}
