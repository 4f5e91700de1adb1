pub mod Lessened
pub mod Shortened
