pub mod Halves
pub mod Stages
pub mod Boots
pub mod Cutting
pub mod Image
