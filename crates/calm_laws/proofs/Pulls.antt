pub mod Ascending
pub mod Under
pub mod Falling
pub mod Served
