use Rattle.rtcp_members.proofs.Lasting.{heard_stays, lately_stays, member_stays}
use Rattle.rtcp_members.proofs.heard_laws.those_heard_stay.Goals as goal

pub returns : goal.returns
returns c = record {
  stay = heard_stays;
  lately = lately_stays;
  member = member_stays;
}
