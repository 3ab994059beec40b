use Rattle.rtcp_members.proofs.Introducing.{named_become_members}
use Rattle.rtcp_members.proofs.heard_laws.those_named_become_members.Goals as goal

pub returns : goal.returns
returns c = named_become_members
