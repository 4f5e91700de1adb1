pub mod Bare
pub mod Hindered
pub mod Mounting
pub use Rattle.bfs_check.proofs.Reading
