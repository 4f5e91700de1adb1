pub mod Drawn
pub mod Plain
pub mod Spells
pub mod Workloads
mod Formed
