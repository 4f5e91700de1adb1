pub mod Refusing
pub mod Counted
pub mod Gathers
pub mod InOrder
pub mod Named
pub mod Allowed
pub mod Stored
pub mod Joined
pub mod NextPairs
pub mod Whole
pub use Rattle.bfs_remove_index.proofs.Refusing as RemoveIndexRefusing
pub use Rattle.bfs_remove_index.proofs.Whole as RemoveIndexWhole
pub use Rattle.bfs_remove_index.proofs.Resting
