pub mod Systems
pub mod Owning
pub mod Sharing
pub mod Rounds
pub mod Counted
pub mod Telling
