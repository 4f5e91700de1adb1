pub mod Without
pub mod Reading
