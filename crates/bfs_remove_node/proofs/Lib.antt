pub mod Refusing
pub mod Looking
pub mod Faulty
pub mod Sought
pub mod Gone
pub mod Lengths
pub mod Indexed
pub mod Allowing
pub mod Keyed
pub use Rattle.bfs_unmake.proofs.Streams as UnmakeStreams
