pub mod Going
pub mod Keeping
pub mod Facing
pub mod Holding
