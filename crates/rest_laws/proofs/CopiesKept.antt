pub mod CoversKept
pub mod LawsRun
pub mod Contents
pub mod Hold
