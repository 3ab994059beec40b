use Rattle.rtcp_session.proofs.BackoffBye.{one_backoff_bye, backoff_byes_wait, few_leave}
use Rattle.rtcp_session.proofs.session_laws.leaving_together_does_not_flood.Goals as goal

pub returns-clause-one : goal.returns-clause-one
returns-clause-one c = one_backoff_bye

pub returns-clause-intervals : goal.returns-clause-intervals
returns-clause-intervals c = backoff_byes_wait

pub returns-clause-byes : goal.returns-clause-byes
returns-clause-byes c =
    λ terms from width all some is. few_leave terms from width all some is.stand is.bandwidth is.counted is.sizes
