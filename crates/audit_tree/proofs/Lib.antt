pub mod Put
pub mod Roles
pub mod Ranges
pub mod Acts
