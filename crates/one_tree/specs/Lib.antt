pub mod Following
pub mod Unfit
