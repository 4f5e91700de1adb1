pub mod Sites
pub mod Made
pub mod Filled
pub mod Trees
pub mod Given
pub use Rattle.bfs_maps.specs.NumberTrees
pub use Rattle.bfs_maps.specs.Refused
pub use Rattle.bfs_maps.specs.Mapped
