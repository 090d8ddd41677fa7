mod Audits
pub mod Words
pub mod Keeps
