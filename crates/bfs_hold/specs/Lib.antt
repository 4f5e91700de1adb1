pub mod Places
pub mod Held
pub use Rattle.bfs_set_size.specs.Resizing
pub use Rattle.bfs_set_size.specs.Sized
