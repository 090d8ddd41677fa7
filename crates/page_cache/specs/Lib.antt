pub mod Cached
pub mod Kept
pub mod Parts
