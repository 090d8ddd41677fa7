pub mod Image
pub mod Formats
pub mod Boots
pub mod Run
