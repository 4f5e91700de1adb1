pub mod Blocks
pub mod Disk
pub mod Memory
pub mod MemoryLaws
pub mod State
pub mod StateLaws
