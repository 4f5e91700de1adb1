pub mod Agreement
pub mod Kept
