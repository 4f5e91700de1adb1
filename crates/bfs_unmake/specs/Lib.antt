pub mod Whole
pub mod Counted
pub use Rattle.bfs_leave.specs.Leaving
pub use Rattle.bfs_calls.specs.Allowances
pub use Rattle.bfs_calls.specs.Refusals
pub use Rattle.bfs_calls.specs.Faults
pub use Rattle.bfs_calls.specs.Done
pub use Rattle.bfs_calls.specs.Made
