pub mod Built
pub mod Ordinary
