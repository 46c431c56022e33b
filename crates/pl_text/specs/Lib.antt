pub mod Cells
pub mod Displayed
pub mod Literal
pub mod Pattern
pub mod Formatted
pub mod Numerals
