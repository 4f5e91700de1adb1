pub mod Members
pub mod Going
pub mod Paired
pub mod Tours
