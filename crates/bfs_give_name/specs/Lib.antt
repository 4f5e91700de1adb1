pub mod Named
pub use Rattle.bfs_attr_put.specs.Written
