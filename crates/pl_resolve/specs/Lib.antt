pub mod Occurrences
pub mod Functions
pub mod Scopes
