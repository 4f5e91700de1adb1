pub mod Exchanged
pub mod Adding
pub mod Removal
pub mod Directories
pub mod Laws
