pub mod Attributed
pub mod Laws
pub mod Stamped
pub mod Refused
pub mod Removed
pub mod Left
pub use Rattle.bfs_query.specs.declared.kind.IndexAt
pub use Rattle.bfs_query.specs.Indices
pub use Rattle.bfs_attrs.specs.Replaced
pub use Rattle.bfs_attrs.specs.Removed as AttrsRemoved
pub use Rattle.bfs_attrs.specs.Stored
pub use Rattle.bfs_attrs.specs.Put
pub use Rattle.bfs_unmake.specs.Leaving as LeaveLeaving
pub use Rattle.bfs_unmake.specs.Allowances
pub use Rattle.bfs_unmake.specs.Refusals
pub use Rattle.bfs_unmake.specs.Faults
pub use Rattle.bfs_unmake.specs.Done
pub use Rattle.bfs_unmake.specs.Made
pub use Rattle.bfs_attrs.specs.Removal
pub use Rattle.bfs_attrs.specs.Exchanged
pub use Rattle.bfs_query.specs.Written
