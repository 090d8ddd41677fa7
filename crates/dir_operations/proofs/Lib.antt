mod Samples
pub mod OneByOne
pub mod KindTable
pub mod Digits
pub mod Numbered
