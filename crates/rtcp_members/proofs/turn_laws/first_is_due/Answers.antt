use Rattle.rtcp_members.proofs.LawLemmas.{first_is_due-there, first_is_due-due, first_is_due-block, first_is_due-answered}
use Rattle.rtcp_members.proofs.turn_laws.first_is_due.Goals as goal

pub returns : goal.returns
returns c = record {
  there = first_is_due-there;
  due = first_is_due-due;
  block = first_is_due-block;
  answered = first_is_due-answered;
}
