pub mod Reports
pub mod Sizes
pub mod Traced
pub mod Views
pub mod Gathered
