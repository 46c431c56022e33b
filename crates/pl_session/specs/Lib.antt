pub mod Words
pub mod Lines
pub mod Levels
pub mod Told
pub mod Printing
pub mod Ends
pub mod Says
