mod Standing
pub mod Onward
mod Mapped
