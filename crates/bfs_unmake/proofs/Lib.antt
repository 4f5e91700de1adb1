pub mod Numbers
pub mod Gone
pub mod Streams
pub use Rattle.bfs_leave.proofs.Standing
pub use Rattle.bfs_leave.proofs.Steps
pub use Rattle.bfs_calls.proofs.Faulting
pub use Rattle.bfs_calls.proofs.Allowed
pub use Rattle.bfs_calls.proofs.Refusing
