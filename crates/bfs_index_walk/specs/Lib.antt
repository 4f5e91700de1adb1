pub mod Indices
pub mod Laws
pub use Rattle.bfs_attrs_walk.specs.Passes
