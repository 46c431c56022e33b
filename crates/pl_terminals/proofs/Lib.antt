pub mod Passing
pub mod Undone
