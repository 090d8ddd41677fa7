pub mod Audits
pub mod Kinds
pub mod Steps
