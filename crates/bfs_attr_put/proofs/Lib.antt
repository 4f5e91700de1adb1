pub mod Keyed
pub mod Refusing
pub mod Faulting
pub mod Naming
pub mod Gained
pub mod Relisted
pub mod Whole
pub mod Missing
pub mod Good
pub mod Dues
pub mod Allowing
pub use Rattle.bfs_attr_calls.proofs.Exchange
pub use Rattle.bfs_attr_calls.proofs.Changed
pub use Rattle.bfs_attr_calls.proofs.Keys
pub use Rattle.bfs_attr_calls.proofs.Holding
pub use Rattle.bfs_attr_calls.proofs.Inode
pub use Rattle.bfs_attr_calls.proofs.Names
pub use Rattle.bfs_attr_calls.proofs.Alike
pub use Rattle.bfs_attr_calls.proofs.Whole as AttrCallsWhole
pub use Rattle.bfs_attr_calls.proofs.Bearing
pub use Rattle.bfs_attr_calls.proofs.Faulting as CallsFaulting
pub use Rattle.bfs_attr_calls.proofs.Brings
