pub mod Homing
pub mod Steps
pub mod Recover
