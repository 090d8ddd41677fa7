pub mod Asking
pub mod Rescuing
pub mod Told
