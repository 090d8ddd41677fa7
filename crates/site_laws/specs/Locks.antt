pub mod Going
pub mod Locks
pub mod Facts
pub mod Writing
pub mod Joins
pub mod Grants
pub mod Asked
pub mod Synced
