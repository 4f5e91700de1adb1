pub mod Items
pub mod Called
pub mod Stepped
pub mod Faulting
pub mod Joined
pub use Rattle.bfs_attr_put.proofs.AttrCallsWhole
