pub mod Back
pub mod Groups
pub mod Served
pub mod Giving
pub mod Others
pub mod Inodes
