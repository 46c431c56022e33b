pub mod Names
pub mod Rules
pub mod Pairs
pub mod Arguments
pub mod Asking
pub mod Making
pub mod Along
pub mod Calling
