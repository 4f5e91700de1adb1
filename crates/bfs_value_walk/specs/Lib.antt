pub mod Named
pub mod Met
pub mod Chained
pub mod Taken
pub mod Written
pub use Rattle.bfs_tree_walk.specs.Plain
pub use Rattle.bfs_tree_walk.specs.Unmet
