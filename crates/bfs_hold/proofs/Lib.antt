pub mod Stamped
pub mod Allowed
pub mod Listed
pub mod Refusing
pub mod Restamped
pub use Rattle.bfs_set_size.proofs.Refusing as SetSizeRefusing
pub use Rattle.bfs_set_size.proofs.Owned
pub use Rattle.bfs_set_size.proofs.Steps
