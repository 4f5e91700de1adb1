mod Digits
mod Found
mod Plain
pub mod Callers
