mod Asks
pub mod Cuts
pub mod Halted
mod Slots
mod Tells
