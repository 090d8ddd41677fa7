pub mod Laws
pub mod Lists
pub mod Sums
pub mod Loop
pub mod Zeros
pub mod Shapes
