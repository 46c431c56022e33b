pub mod Workspaces
pub mod Inner
