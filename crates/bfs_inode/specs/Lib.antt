pub mod Block
pub mod Inode
pub mod Refusals
