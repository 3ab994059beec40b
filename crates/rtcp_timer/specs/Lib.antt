pub mod Averages
pub mod Loads
pub mod Quarters
pub mod Schedules
pub mod Departures
