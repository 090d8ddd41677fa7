pub mod Rows
pub mod Sent
pub mod Adding
pub mod Calls
pub mod Listing
pub mod Known
mod Spans
