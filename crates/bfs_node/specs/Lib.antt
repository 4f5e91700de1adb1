pub mod Faults
pub mod Header
pub mod Page
pub mod Search
pub mod Written
pub use Rattle.bfs_base.specs.declared.kind.KeyKind as BaseKeyKind
pub use Rattle.bfs_base.specs.Lists
pub use Rattle.bfs_base.specs.Keys
