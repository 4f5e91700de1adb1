pub mod Mounts
pub use Rattle.bfs_check.specs.declared.checking.CheckFault.TheVariants as CheckFaultVariants
pub use Rattle.bfs_check.specs.declared.checking.CheckFault
pub use Rattle.bfs_check.specs.declared.checking.Verdict
pub use Rattle.bfs_check.specs.Checked
pub use Rattle.bfs_check.specs.Summary
