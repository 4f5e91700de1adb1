pub mod Sought
pub mod Cases
