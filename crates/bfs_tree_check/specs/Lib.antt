pub mod Marked
pub mod Levels
pub mod Freed
pub mod Amiss
pub mod Ordered
pub mod Surveyed
pub mod Shaped
