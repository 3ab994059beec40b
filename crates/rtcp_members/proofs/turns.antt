pub mod TurnsRows
pub mod Turns
pub mod InCyclicTurn
pub mod LeastDue
pub mod NextDue
pub mod NextBlock
pub mod NewsOfTraces
