pub mod Signs
pub mod Terminals
