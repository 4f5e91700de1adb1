pub mod Unchanged
pub mod Nodes
