pub mod Listed
pub mod Nodes
pub use Rattle.bfs_names_walk.specs.declared.row.NameRow
pub use Rattle.bfs_names_walk.specs.Rows
