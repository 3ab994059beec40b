pub mod Views
pub mod Named
pub mod Taken
pub mod OwnValues
pub mod States
pub mod Sayings
pub mod Promises
pub mod Codes
