pub mod Reading
pub mod Standing
pub mod Listing
pub mod Naming
pub mod Walking
pub mod Writing
pub mod Lookups
