pub mod Addresses
pub mod Outside
pub mod Attributing
pub mod Placing
pub mod Causing
pub mod Differing
pub mod Owning
pub mod Storing
