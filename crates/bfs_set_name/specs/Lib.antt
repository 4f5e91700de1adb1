pub mod Renamed
pub mod Laws
pub use Rattle.bfs_attrs.specs.Replaced
pub use Rattle.bfs_attrs.specs.Stored
pub use Rattle.bfs_attrs.specs.Put
