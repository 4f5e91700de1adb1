pub mod Names
pub mod Images
pub mod Calls
pub mod Joined
pub mod Known
mod Record
mod Picks
