use Rattle.rtcp_timer.proofs.LawLemmas.{last_lies_between-not_before_sent, last_lies_between-not_after_newest, last_lies_between-not_after_departure}
use Rattle.rtcp_timer.proofs.laws.last_lies_between.Goals as goal

pub returns-clause-not_before_sent : goal.returns-clause-not_before_sent
returns-clause-not_before_sent c = last_lies_between-not_before_sent

pub returns-clause-not_after_newest : goal.returns-clause-not_after_newest
returns-clause-not_after_newest c = last_lies_between-not_after_newest

pub returns-clause-not_after_departure : goal.returns-clause-not_after_departure
returns-clause-not_after_departure c = last_lies_between-not_after_departure
