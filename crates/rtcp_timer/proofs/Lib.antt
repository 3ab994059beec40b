mod examples
mod Quarters
mod Quotients
mod Averaging
mod Sharing
mod Sides
mod Cases
mod Bounding
mod Following
pub mod LawLemmas
