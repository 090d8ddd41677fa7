pub mod Writing
pub mod Judged
pub mod Inserting
pub mod Bounded
pub mod Mended
pub mod Zeros
