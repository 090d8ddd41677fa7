pub mod Holds
pub mod Keeps
pub mod Audits
