pub mod Claimed
pub mod Codes
pub mod Guarded
pub mod Views
pub mod Promises
