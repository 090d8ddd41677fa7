pub mod Free
pub mod Freed
pub mod Files
pub mod Places
pub mod Counted
