mod examples
pub mod LineLemmas
pub mod CutLemmas
pub mod RankLemmas
pub mod ShortLemmas
pub mod ListingLemmas
pub mod NoteLemmas
pub mod FlowLemmas
pub mod ObservationLemmas
pub mod LeaveLemmas
pub mod WatchLemmas
