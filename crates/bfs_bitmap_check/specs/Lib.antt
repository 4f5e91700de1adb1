pub mod Bitmaps
pub mod Marks
