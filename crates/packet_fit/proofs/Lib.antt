pub mod Vectors
pub mod Boots
pub mod Short
pub mod ShortBodies
