pub mod Format
pub mod Laid
pub mod Written
