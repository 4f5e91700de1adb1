pub mod Allowances
pub mod Done
pub mod Faults
pub mod Made
pub mod Refusals
