pub mod Consistent
pub mod Extends
pub mod Longer
pub mod Growing
