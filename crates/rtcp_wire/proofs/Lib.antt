-- Spellings one after the other; prefixes, blocks and identifiers; chunks.
mod Joining
pub mod Prefixes
mod Fixed
mod ChunkPrefixes
-- Bodies, their faults, and packets.
mod Bodies
mod BodyFaults
mod Spellings
-- The order of the tests, and the laws of compounds.
mod FirstFound
mod Stops
mod Refusals
mod ReadingWalks
pub mod LawLemmas
-- Single tests, and a walk by them: accepted or faulty.
mod Passing
mod BodyOrFault
mod PacketOrFault
mod Walking
-- The function that reads a datagram or tells its first fault.
mod ReadBodies
mod ReadDatagrams
-- What the tests see of the sources, and compounds about one source.
mod Summing
mod Reporters
mod SoleSources
-- The iterators: what each step gives, facts, and blocks about a source.
mod WalkSteps
mod ItemSteps
mod ChunkSteps
mod PacketSteps
mod FewFacts
mod AboutLists
mod BlockLists
mod NoMedia
-- Heads of RTP packets.
mod RtpLists
mod RtpHeading
mod RtpFaults
mod RtpComputed
mod ReadingRtp
mod RtpRanges
mod RtpPlaces
-- What is written, and that what was read can be written.
mod Appending
pub mod Putting
mod Written
mod WrittenPackets
mod Reports
mod Octets
mod PartsAgain
mod WritableAgain
mod PartRanges
-- Worked examples.
mod examples
