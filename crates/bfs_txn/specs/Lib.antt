pub mod Changed
pub mod Faults
pub mod Laws
pub mod Merging
pub mod Pages
pub mod Told
