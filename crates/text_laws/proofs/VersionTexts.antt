pub mod Commits
pub mod Names
