pub mod Visited
pub mod Records
