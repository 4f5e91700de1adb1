pub mod Setting
pub mod Claiming
