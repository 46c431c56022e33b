pub mod Counted
pub mod Faults
pub mod Told
pub mod Named
pub mod Whole
