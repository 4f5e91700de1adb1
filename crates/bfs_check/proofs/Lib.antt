pub mod Trimmed
mod Lending
mod Parts
mod Slotted
pub mod Reading
