pub mod Passes
pub use Rattle.bfs_nodes_walk.specs.declared.lead.NodeLead
pub use Rattle.bfs_attr_walk.specs.Attributed
