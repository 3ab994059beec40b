pub mod Moments
pub mod Intervals
