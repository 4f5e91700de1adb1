pub mod Removed
pub use Rattle.bfs_query.specs.declared.kind.IndexAt
pub use Rattle.bfs_query.specs.Indices
