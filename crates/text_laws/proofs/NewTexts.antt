pub mod Mounts
pub mod Requests
pub mod Calls
pub mod Kept
pub mod Mends
pub mod Rows
pub mod Operations
