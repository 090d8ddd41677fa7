pub mod Samples
pub mod Steps
pub mod JoinLaws
pub mod Directories
pub mod Revived
