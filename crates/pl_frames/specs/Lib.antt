pub mod Piles
pub mod Trees
pub mod Below
pub mod Parts
pub mod Rows
pub mod Reduce
pub mod Outlist
