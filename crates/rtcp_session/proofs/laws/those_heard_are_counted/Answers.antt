use Rattle.rtcp_session.proofs.Hearing.{heard_members, heard_senders, heard_listeners, heard_are_counted}
use Rattle.rtcp_session.proofs.laws.those_heard_are_counted.Goals as goal

pub returns-clause-members : goal.returns-clause-members
returns-clause-members c = heard_members

pub returns-clause-senders : goal.returns-clause-senders
returns-clause-senders c = heard_senders

pub returns-clause-others : goal.returns-clause-others
returns-clause-others c = heard_listeners

pub returns-clause-crowd : goal.returns-clause-crowd
returns-clause-crowd c = heard_are_counted
