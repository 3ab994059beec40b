use Rattle.rtcp_session.proofs.Introduced.{named_are_heard}
use Rattle.rtcp_session.proofs.delivery_laws.those_named_are_heard.Goals as goal

pub returns : goal.returns
returns c = named_are_heard
