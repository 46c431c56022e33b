pub mod Naming
pub mod Arguments
pub mod Finding
pub mod Layout
pub mod Sorting
pub mod Along
pub mod Calls
