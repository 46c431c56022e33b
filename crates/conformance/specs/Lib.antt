pub mod Passes
pub mod Choices
pub mod Runs
pub mod Judged
pub mod Differences
