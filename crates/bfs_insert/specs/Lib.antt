pub mod Divided
pub mod Growth
pub mod Puts
