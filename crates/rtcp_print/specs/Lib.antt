pub mod Lines
pub mod Pages
