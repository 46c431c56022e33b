pub mod Nodes
pub mod Unbuilt
