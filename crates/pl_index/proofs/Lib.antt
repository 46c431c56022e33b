pub mod Crossing
pub mod Cells
pub mod Stored
pub mod Left
