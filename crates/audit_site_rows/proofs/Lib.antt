pub mod OnlyOne
pub mod Home
