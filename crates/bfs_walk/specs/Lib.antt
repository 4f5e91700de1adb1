pub mod Wrong
pub mod Walked
pub mod Due
