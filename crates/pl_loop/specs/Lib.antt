pub mod Coming
pub mod Passes
