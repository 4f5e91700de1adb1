pub mod Ring
pub mod Entry
pub mod Found
pub mod Replay
pub mod Walk
