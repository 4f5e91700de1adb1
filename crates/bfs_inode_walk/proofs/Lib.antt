pub mod Blocks
pub mod Claiming
pub mod Counting
pub mod Ways
pub mod Visits
pub mod Recorded
