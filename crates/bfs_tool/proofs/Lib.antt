mod Changed
mod Commands
mod Checks
mod Complete
mod Undamaged
mod Held
mod Made
mod Pieces
pub mod Shells
