pub mod Attributes
pub mod Clashes
pub mod Facts
pub mod Leads
pub mod Walks
pub use Rattle.bfs_node_walk.specs.Listed
