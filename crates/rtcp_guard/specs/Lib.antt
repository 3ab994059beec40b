pub mod Claims
pub mod Guarding
pub mod Histories
pub mod Naming
pub mod Tables
