pub mod Written
pub mod Listed
pub use Rattle.bfs_attr_calls.specs.Removed
pub use Rattle.bfs_attr_calls.specs.Faults
pub use Rattle.bfs_attr_calls.specs.Done
pub use Rattle.bfs_attr_calls.specs.Exchanged
