pub mod Calls
pub mod Complete
pub mod Inputs
pub mod Loads
pub mod Openings
pub mod Order
pub mod Reading
pub mod Runs
pub mod Schedules
pub mod Standing
pub mod Told
pub mod Turns
pub mod Whole
mod Codes
