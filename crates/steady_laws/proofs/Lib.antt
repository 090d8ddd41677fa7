pub mod Answered
pub mod Asking
pub mod Beginnings
pub mod Keeping
pub mod Operation
pub mod Reading
