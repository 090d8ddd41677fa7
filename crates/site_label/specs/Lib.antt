pub mod Label
pub mod Reading
pub mod Raising
pub mod Cutting
pub mod Image
