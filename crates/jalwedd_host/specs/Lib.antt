-- What the library promises to a host in C.
pub mod Handles
pub mod Owned
pub mod Answers
pub mod Early
pub mod Guards
pub mod Promises
pub mod Configs
pub mod Readings
pub mod Parts
pub mod Heads
pub mod Walks
pub mod Apps
pub mod Sources
pub mod Owns
pub mod Changes
pub mod Texts
