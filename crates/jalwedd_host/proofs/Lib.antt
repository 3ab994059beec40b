pub mod LawLemmas
pub mod Host
pub mod Values
mod Options
mod Listing
mod Never
mod Ranges
mod Telling
mod Turning
mod Turns
mod Held
mod Judging
mod WholeWalks
pub mod OwnWalks
pub mod Walking
mod Locating
mod Reasons
mod HeadReasons
