mod Wording
mod Sorting
mod Turns
mod Faulty
mod Meeting
mod Chaining
mod Rowing
mod Reaching
pub mod Pairing
pub use Rattle.bfs_tree_walk.proofs.Plainly
pub use Rattle.bfs_tree_walk.proofs.Wholly
