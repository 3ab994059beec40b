pub mod Rows
pub mod Heaps
pub mod Ranked
pub mod Behind
pub mod Found
pub mod Halving
pub mod Quartering
