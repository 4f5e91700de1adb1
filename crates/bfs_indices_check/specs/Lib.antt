pub mod Listed
pub mod Same
pub use Rattle.bfs_index_walk.specs.declared.found.FoundIndex
pub use Rattle.bfs_index_walk.specs.Indices
pub use Rattle.bfs_index_walk.specs.Laws
pub use Rattle.bfs_index_walk.specs.Passes
