pub mod Reaches
pub mod Scripted
