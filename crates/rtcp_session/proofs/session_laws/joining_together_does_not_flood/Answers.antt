use Rattle.rtcp_session.proofs.Hearing.{those_heard_join}
use Rattle.rtcp_session.proofs.Joining.{few_others_join, few_senders_join, joined_reports, joins_have_sizes}
use Rattle.rtcp_session.proofs.session_laws.joining_together_does_not_flood.Goals as goal

pub returns-clause-others : goal.returns-clause-others
returns-clause-others c = λ terms from width all some is. few_others_join terms from width all some is.each is.averages
    is.counted

pub returns-clause-senders : goal.returns-clause-senders
returns-clause-senders c = λ terms from width all some is. few_senders_join terms from width all some is.each
    is.averages is.counted

pub returns-clause-reports : goal.returns-clause-reports
returns-clause-reports c = λ terms from width all some is averages joins.
    joined_reports terms from width all some is averages joins.averages joins.counted

pub returns-clause-sizes : goal.returns-clause-sizes
returns-clause-sizes c = joins_have_sizes

pub returns-clause-heard : goal.returns-clause-heard
returns-clause-heard c = those_heard_join
