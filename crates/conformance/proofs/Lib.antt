pub mod Counting
pub mod Named
pub mod Differing
