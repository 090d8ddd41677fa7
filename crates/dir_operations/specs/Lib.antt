pub mod Kinds
pub mod Decoded
pub mod Answers
