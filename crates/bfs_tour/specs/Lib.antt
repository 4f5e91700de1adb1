pub mod Tours
pub mod Pairs
pub mod Touring
