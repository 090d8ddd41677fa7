pub mod Answered
pub mod OneVersion
pub mod Reads
