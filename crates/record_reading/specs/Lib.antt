pub mod Ranges
pub mod AsRead
pub mod Requests
pub mod Records
pub mod Reading
