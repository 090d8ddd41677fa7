pub mod Pulls
pub mod Known
pub mod Held
