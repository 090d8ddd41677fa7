pub mod Names
pub mod Looking
pub mod Paging
