pub mod Moving
pub mod Roles
pub mod RoleCounts
