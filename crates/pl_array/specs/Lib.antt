pub mod Arrays
pub mod Inner
pub mod Cellwise
pub mod Joining
