pub mod Written
pub mod Born
pub mod Grown
pub mod Laws
pub mod Statuses
pub mod IndexNames
pub use Rattle.bfs_index.specs.Refused
pub use Rattle.bfs_dir.specs.Directories
