pub mod Called
pub mod Looks
pub mod Answered
pub mod Files
pub use Rattle.bfs_hold.specs.Places
pub use Rattle.bfs_index_make.specs.Written
pub use Rattle.bfs_query.specs.Resting
