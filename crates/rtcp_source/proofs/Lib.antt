pub mod LawLemmas
mod Takings
mod Stepping
mod Summing
mod Integers
mod News
mod examples
mod Rates
