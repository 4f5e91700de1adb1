pub mod Maps
pub mod Children
pub mod Free
pub mod Lasts
