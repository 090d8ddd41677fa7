pub mod FirstRun
pub mod PartedRun
pub mod FlaggedRun
pub mod StoppedRun
pub mod Wrong
