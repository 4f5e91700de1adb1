pub mod Walked
pub mod Modes
pub mod Targets
pub mod Faults
pub mod Named
pub mod Parents
