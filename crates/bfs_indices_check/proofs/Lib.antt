pub mod Rowed
pub mod Placing
pub mod Listing
pub mod Finds
pub use Rattle.bfs_index_walk.proofs.Standing
mod Samely
