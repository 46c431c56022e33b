pub mod Places
pub mod Choosing
pub mod Writing
pub mod Inner
