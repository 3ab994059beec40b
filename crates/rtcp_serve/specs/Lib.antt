pub mod Links
pub mod Served
pub mod Observers
pub mod Endings
pub mod Tallies
pub mod Serving
pub mod Sessions
pub mod Handing
