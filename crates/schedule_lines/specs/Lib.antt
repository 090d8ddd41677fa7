pub mod Spelling
pub mod Ranges
pub mod Cluster
pub mod Schedule
