pub mod Windows
pub mod Crowds
pub mod Waits
pub mod Joins
pub mod BackoffByes
pub mod Deliveries
pub mod Falls
pub mod Departures
