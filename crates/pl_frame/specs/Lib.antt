pub mod Seeing
pub mod Reading
pub mod Ordering
pub mod Rising
pub mod Ordinary
