pub mod Indices
pub mod Resting
pub use Rattle.bfs_moves.specs.Written
