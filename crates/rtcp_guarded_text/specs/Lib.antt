pub mod GuardedText
pub mod GuardedReplay
