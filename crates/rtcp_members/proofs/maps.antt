pub mod Updated
pub mod Counting
