pub mod answers
pub mod state
pub mod bounds
