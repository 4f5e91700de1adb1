pub mod Plainly
pub mod Wholly
