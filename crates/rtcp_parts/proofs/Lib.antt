mod OctetParts
mod Packets
pub mod Boundaries
pub mod Calls
mod Entering
mod Rests
mod Places
mod AppPlaces
mod BlockWalks
mod GoodbyeWalks
mod ItemWalks
mod SinglePackets
mod Stepping
