pub mod Once
pub mod Parting
pub mod Writing
pub mod Spreading
pub mod Stepping
pub mod Halting
