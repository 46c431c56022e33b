pub mod Operands
pub mod Operating
pub mod Ranging
pub mod Bracketing
pub mod Picking
pub mod Columns
pub mod Showing
