pub mod Counted
pub mod Refused
pub mod Removed
pub use Rattle.bfs_unlist.specs.Without
pub use Rattle.bfs_unmake.specs.Whole
