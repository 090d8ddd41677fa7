pub mod Cutting
pub mod Gates
pub mod Switch
