pub mod Requests
pub mod Asking
pub mod Deliveries
pub mod Waiting
pub mod Records
