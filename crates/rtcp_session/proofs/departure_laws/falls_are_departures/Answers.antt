use Rattle.rtcp_session.proofs.Departed.{departing_is_departure, departures_are_of_a_kind, falls_are_by_departures, members_fall_by_departures, told_fewer, who_departs}
use Rattle.rtcp_session.proofs.departure_laws.falls_are_departures.Goals as goal

pub returns-clause-falls : goal.returns-clause-falls
returns-clause-falls c = falls_are_by_departures

pub returns-clause-counts : goal.returns-clause-counts
returns-clause-counts c = members_fall_by_departures

pub returns-clause-somebody : goal.returns-clause-somebody
returns-clause-somebody c = λ setup act outcome.
    (who_departs setup act outcome, departing_is_departure setup act outcome)

pub returns-clause-kinds : goal.returns-clause-kinds
returns-clause-kinds c = departures_are_of_a_kind

pub returns-clause-told : goal.returns-clause-told
returns-clause-told c = told_fewer
