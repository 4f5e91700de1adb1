pub mod Leaving
pub mod Given
pub mod Laws
pub mod Unlisted
