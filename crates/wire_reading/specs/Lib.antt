pub mod Decoding
pub mod Pages
