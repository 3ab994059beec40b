pub mod Rising
pub mod Searching
pub mod Placing
pub mod Inserting
pub mod Edits
pub mod Checking
pub mod Reported
