pub mod Layers
pub mod InMemory
pub mod Few
pub mod Merges
pub mod Settles
