-- A map of the proofs. Beside these modules, a folder of the name of a file of src/ has the proofs of its functions.

-- Claims by rising SSRC: where a source stands, and what is put among them.
pub mod Orders
-- How many claims pass a test once one was put among them, and which are found.
pub mod Putting
-- The same once an origin named sources.
pub mod Claiming
-- New sources of an origin, merged into the claims.
pub mod Newcomers
-- Since when all sources were named.
pub mod Ages
-- The cells in which claims lie.
pub mod Rows
-- A datagram's names, counted, and the verdict by them.
pub mod Counting
-- The new sources among a datagram's names, each once.
pub mod Gathering
-- How many sources and goodbyes an origin has, once counted.
pub mod Tallying
-- The verdict by the first names of a datagram.
pub mod Deciding
-- No origin has more sources than it may.
pub mod Bounding
-- What the host may expect.
pub mod Expecting
-- The names of a compound, one after the other.
pub mod Runs
-- Compounds that are about one source.
pub mod Soles
-- The source of which a BYE in a compound speaks first.
pub mod Leavers
-- Who owns a source by the history.
pub mod Owning
-- One origin speaks for a source, and the others do not interfere.
pub mod Interfering
-- An origin that names only the same few sources.
pub mod Fewness
-- How many goodbyes of an origin are passed on within a hold.
pub mod Parting
-- Rows of histories, and what would be wrong of them.
mod examples
