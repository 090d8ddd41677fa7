pub mod Bytes
pub mod Counts
pub mod Steps
pub mod Write
pub mod Cut
