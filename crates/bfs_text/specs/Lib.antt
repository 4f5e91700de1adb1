pub mod Cutting
pub mod Words
pub mod Paths
pub mod Printed
pub mod Skips
