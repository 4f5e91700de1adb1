pub mod Ready
pub mod Claims
pub mod Climbs
pub mod Names
pub mod Infos
