use Rattle.rtcp_session.proofs.Announcing.{reports_name_their_source}
use Rattle.rtcp_session.proofs.Delivering.{heard_are_members}
use Rattle.rtcp_session.proofs.Taking.{taken_are_known}
use Rattle.rtcp_session.proofs.Knowing.{named_are_members, silent_are_no_senders}
use Rattle.rtcp_session.proofs.delivery_laws.those_who_report_become_members.Goals as goal

pub returns-clause-named : goal.returns-clause-named
returns-clause-named c = reports_name_their_source

pub returns-clause-taken : goal.returns-clause-taken
returns-clause-taken c = λ history ssrc at peer word size packets is there named.
    taken_are_known ssrc at peer word size packets named history is there

pub returns-clause-members : goal.returns-clause-members
returns-clause-members c = named_are_members

pub returns-clause-heard : goal.returns-clause-heard
returns-clause-heard c = heard_are_members

pub returns-clause-listeners : goal.returns-clause-listeners
returns-clause-listeners c = silent_are_no_senders
