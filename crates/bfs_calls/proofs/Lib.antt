pub mod Faulting
pub mod Listing
pub mod Refusing
pub mod Newborn
pub mod Indexed
pub mod Answering
pub mod Allowed
pub mod Status
