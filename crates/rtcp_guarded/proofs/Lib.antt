-- How a course goes on, and what is answered.
mod Courses
-- The calls, by what the guard and the participant promise.
mod Calling
-- What a host that keeps guard and participant apart cites.
pub mod LawLemmas
-- What a datagram names.
mod Naming
-- Each source that is present is claimed: the steps of the guard beside the trace of the table.
mod Joining
-- One origin speaks for a source that stays present.
mod Speaking
-- What is held back changes nothing.
mod Holding
-- Rows of histories, and what would be wrong of them.
mod examples
