pub mod Shaping
pub mod Shaped
pub mod ShapesRun
