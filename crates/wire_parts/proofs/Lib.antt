pub mod Counters
pub mod Digits
pub mod Writing
