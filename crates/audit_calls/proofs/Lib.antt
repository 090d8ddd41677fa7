pub mod Waits
pub mod Settled
pub mod Sought
