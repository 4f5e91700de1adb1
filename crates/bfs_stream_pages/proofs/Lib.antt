pub mod Others
pub mod Writing
pub mod Rooms
pub mod Filled
pub mod Paged
pub mod Readers
pub mod Wholes
pub mod Keeping
