pub mod Opened
pub mod OpenIndex
pub mod Settled
pub mod Indexed
