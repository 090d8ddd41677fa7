pub mod Labels
pub mod Leaving
pub mod Faults
pub mod Counts
pub mod Runs
pub mod Cutting
pub mod CutRuns
pub mod CutCommits
