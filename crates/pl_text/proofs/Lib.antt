pub mod Each
pub mod Bytes
pub mod Uses
pub mod Lines
