pub mod Order
pub mod Fields
pub mod Answers
