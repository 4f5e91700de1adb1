pub mod Resizing
pub mod Laws
pub mod Sized
pub mod Relisted
pub mod Allowed
