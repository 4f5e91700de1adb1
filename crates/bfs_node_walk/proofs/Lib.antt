pub mod Readable
pub mod Amissed
pub mod Scanned
pub mod Known
