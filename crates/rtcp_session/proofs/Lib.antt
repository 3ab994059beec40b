-- The proofs build up from one interval. `Deciding` ties each report to its load, `Pacing` fits the intervals of the
-- later reports into the window, and `Sharing` splits them by role. `Loads` and `Octets` say what a load has and how
-- small an average can be, and `Hearing` counts the members of a trace.
--
-- Waits: `Waited` shows that each wait is long for its load, and that a participant waits at most once at a moment.
-- `Moments` adds up, moment by moment, what goes on at a rate while each waits. `Waiting` says what the averages of
-- those who wait at one moment may be, each over the time that it waits. While senders are few for their part of the
-- bandwidth, each role keeps to its own part; otherwise all keep to both. `Sessions` has the clauses of the law, and
-- `Crowding` those of the older one; `Compounds` adds the BYEs.
--
-- Joins and leaves: `Covering` shows that where each span has room for those that end in it, the window has room for
-- all: the last span leaves those that end before it begins. `Joining` and `BackoffBye` use it.
--
-- Deliveries: `Stretching` shifts the beginning of each wait by the delay. `Announcing`, `Taking` and `Knowing` go from
-- a report to a member: the report gives a CNAME, a compound that was taken stands in the trace, and who is named and
-- kept is a member. `Introduced` does so by the laws of rtcp_engine on who is heard. `Delivering` counts these, and
-- `Delivered` has the clauses.
--
-- Falls: `Falling` goes from tick to tick, a longest wait apart: each brings a report, or a fall came since the one
-- before.
--
-- Departures: `Departing` says of each kind of step of a trace which members it leaves, and counts them. `Departed`
-- goes
-- from there to acts, to falls and to reports. `NewMembers` adds up the members that departures take away, and
-- `TimingOut` has the silence before a time-out.
--
-- `examples` has small sessions. Among them are a turnover, in which at most two wait at a time and each counts two,
-- and a pair whose reports come 300 milliseconds late. The modules `WrongRows`, `DeliveryWrongs`, `JoinRows`,
-- `LeaveRows`, `FallRows` and `DepartureWrongs` disprove claims that are a little stronger.
mod Deciding
mod Loads
mod Hearing
mod Octets
mod Pacing
mod Sharing
mod Compounds
mod Moments
mod Waiting
mod Waited
mod Sessions
mod Covering
mod BackoffBye
mod Joining
mod Crowding
mod examples
mod Stretching
mod Knowing
mod Taking
mod Announcing
mod Delivering
mod Delivered
mod Introduced
mod Falling
mod Departing
mod Departed
mod NewMembers
mod TimingOut
