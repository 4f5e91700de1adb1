pub mod Filled
pub mod Gathered
pub mod Made
pub use Rattle.bfs_attr_put.specs.Written
pub use Rattle.bfs_attr_put.specs.Removed
pub use Rattle.bfs_remove_index.specs.Removed as RemoveIndexRemoved
