pub mod Bytes
pub mod Keywords
pub mod State
pub mod Pieces
pub mod Tokens
pub mod Scan
pub mod Answers
