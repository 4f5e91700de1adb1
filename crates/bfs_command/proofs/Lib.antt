mod Goes
mod Histories
pub mod Formed
pub mod Shaped
