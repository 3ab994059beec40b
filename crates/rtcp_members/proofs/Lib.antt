-- A map of the proofs. Beside these modules, a folder of the name of a file of src/ has the proofs of its functions.

-- Of finite maps: the rows that pass a test, counted, and rows changed or dropped.
mod maps
-- Of lists of entries in any order: the map that a list is, counts and bounds of it, and what a fact, a block, a
-- forget and a check make of it.
mod lists
-- Of lists by rising SSRC: where a source stands, and that edits leave the order.
mod sorted
-- Of the cells in which such a list lies, and of the slots of its index.
mod storage
-- Which sources have news, and in which order they are reported: over a map, a list and a trace.
mod turns
-- What is listed of the sources, one after the other.
mod listing
-- That who is a member or sends moves where the counts do.
mod moving
-- Of traces alone: names, stays, what a stay says of its source, and senders in other words.
mod stays
-- That a table that stands at a trace stands at it with one step more, and what it holds then.
mod standing
-- Who stays a member, and who becomes one. Crates above cite these two.
pub mod StepByStep
pub mod Lasting
pub mod Introducing
-- The laws, for the crates above.
pub mod LawLemmas
-- The definitions at small values.
mod examples
