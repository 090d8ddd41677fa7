pub mod Alone
pub mod Standing
pub mod Keeping
pub mod Joining
pub mod ProcessAsked
pub mod ProcessAnswered
pub mod ProcessOperations
