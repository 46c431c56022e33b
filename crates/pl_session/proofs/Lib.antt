pub mod Asked
pub mod Carried
pub mod Pieces
pub mod Printed
pub mod Refused
