pub mod Cuts
pub mod Removed
