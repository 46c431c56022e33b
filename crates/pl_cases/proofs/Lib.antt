pub mod Ends
pub mod Fronts
pub mod Pieces
pub mod Placed
