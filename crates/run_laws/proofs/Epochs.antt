pub mod Forms
pub mod Boots
pub mod Parts
pub mod Handlers
pub mod Steps
pub mod Run
