pub mod Looks
pub mod Shaped
pub mod Going
