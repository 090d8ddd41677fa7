pub mod Ancestors
pub mod Numbers
pub mod Kept
pub mod Ascending
pub mod Places
pub mod Vectors
