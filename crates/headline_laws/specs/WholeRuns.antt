pub mod Disks
pub mod Wrote
pub mod CutCounts
