pub mod Keyed
pub mod Bearing
pub mod Gathers
pub mod Toured
pub mod Filed
