pub mod Held
pub mod Written
pub mod Facts
pub mod HistoryCommits
