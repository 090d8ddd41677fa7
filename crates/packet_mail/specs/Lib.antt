pub mod Posts
pub mod Letters
pub mod Kinds
pub mod Spans
