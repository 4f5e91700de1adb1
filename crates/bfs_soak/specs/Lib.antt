pub mod Workload
pub mod Spellings
pub mod Summary
pub mod WorkloadLaws
