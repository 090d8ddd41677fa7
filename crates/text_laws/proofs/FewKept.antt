pub mod Ascending
pub mod Chained
pub mod Few
