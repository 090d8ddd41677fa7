pub mod Seen
pub mod OpenRows
