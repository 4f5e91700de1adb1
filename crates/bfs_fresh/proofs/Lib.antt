pub mod Zeros
pub mod Areas
pub mod Words
