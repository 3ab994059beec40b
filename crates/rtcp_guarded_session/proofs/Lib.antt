-- `Origins` splits departures by where they come from. `Saying` goes from a departure to a BYE: a datagram by which a
-- member departs says BYE of a source that it names, as it does not name the participant. `Passing` follows the acts of
-- a stretch, with what each brings the guard, and counts: each departure by an origin is a goodbye that was passed on.
-- `Reporting` adds up the origins.
--
-- `examples` has small sessions: rows of each definition, and a session in which all premises hold. `GoodbyeWrongs`
-- disproves claims that are a little stronger.
mod Origins
mod Saying
mod Passing
mod Reporting
mod examples
