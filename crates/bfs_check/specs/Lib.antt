pub mod Checked
pub mod Laws
pub mod Slots
pub use Rattle.bfs_passes.specs.declared.passes.Summary
