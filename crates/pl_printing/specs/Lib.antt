pub mod Places
pub mod Canonical
pub mod ReadingBack
