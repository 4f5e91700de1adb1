pub mod Cuts
pub mod Numbers
pub mod Unescaping
pub mod Parts
pub mod Octal
pub mod Skipping
