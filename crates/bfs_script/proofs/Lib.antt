pub mod BadLines
pub mod Noted
pub mod Placed
pub mod Far
pub mod Limits
mod Formed
