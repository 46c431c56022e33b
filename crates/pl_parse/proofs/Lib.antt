mod Capped
mod Places
mod Shapes
mod Outlists
mod Operands
mod Endings
mod After
mod Sentences
mod Simulation
pub mod Answered
