pub mod Roles
pub mod Areas
pub mod Inodes
pub mod Names
