pub mod Differs
pub mod Prefixes
pub mod KeysBack
pub mod Rests
pub mod Unlisted
