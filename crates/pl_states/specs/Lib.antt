pub mod Statements
pub mod Titles
pub mod Run
