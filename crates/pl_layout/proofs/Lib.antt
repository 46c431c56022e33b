pub mod Parts
pub mod Decimals
pub mod Spelt
pub mod Reading
pub mod Law
