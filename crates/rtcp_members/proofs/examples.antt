mod TurnsSamples
mod Rows
mod NewsRows
mod WrongRows
