pub mod Alike
pub mod Exchange
pub mod Inode
pub mod Changed
pub mod Stamps
pub mod Refusing
pub mod Keys
pub mod Holding
pub mod Names
pub mod Lost
pub mod Pairs
pub mod Under
pub mod Whole
pub mod Leaves
pub mod Allowing
pub use Rattle.bfs_unmake.proofs.Streams
pub use Rattle.bfs_query.proofs.Bearing
pub use Rattle.bfs_unmake.proofs.Standing
pub use Rattle.bfs_unmake.proofs.Steps
pub use Rattle.bfs_unmake.proofs.Faulting
pub use Rattle.bfs_unmake.proofs.Refusing as CallsRefusing
pub use Rattle.bfs_unmake.proofs.Allowed
pub use Rattle.bfs_attrs.proofs.Brings
pub use Rattle.bfs_query.proofs.Ends
pub use Rattle.bfs_query.proofs.Keys as MovesKeys
