pub mod Plain
pub mod Unmet
