pub mod Gathered
pub mod Keys
pub use Rattle.bfs_nodes_walk.specs.declared.lead.NodeLead
pub use Rattle.bfs_nodes_walk.specs.Leads
pub use Rattle.bfs_nodes_walk.specs.declared.facts.NodeFacts
pub use Rattle.bfs_nodes_walk.specs.Facts
