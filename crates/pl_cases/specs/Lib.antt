pub mod Answers
pub mod Words
pub mod Marks
pub mod Lines
pub mod Sections
pub mod Drafts
pub mod Cases
