pub mod Moments
pub mod Sectors
