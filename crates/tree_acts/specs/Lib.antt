pub mod Acting
pub mod Unfit
