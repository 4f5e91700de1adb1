pub mod Partly
pub mod Indexed
pub mod Far
