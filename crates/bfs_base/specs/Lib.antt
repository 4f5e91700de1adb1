pub mod Counts
pub mod Images
pub mod Keys
pub mod Lists
pub mod Moments
