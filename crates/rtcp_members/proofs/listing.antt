pub mod Above
pub mod Past
