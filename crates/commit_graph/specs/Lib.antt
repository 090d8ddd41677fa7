pub mod Versions
pub mod Grants
pub mod Counters
pub mod Vectors
