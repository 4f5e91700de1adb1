pub mod Answers
pub mod Ends
pub mod Leaves
pub mod Meant
pub mod Ranges
