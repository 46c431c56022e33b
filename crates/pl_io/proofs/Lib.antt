pub mod Appended
pub mod Counts
pub mod Fronts
