pub mod Inputs
pub mod Promises
pub mod Runners
pub mod Runs
pub mod Turns
pub mod Codes
pub mod Ends
