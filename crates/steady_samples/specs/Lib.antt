pub mod HeldThroughACut
pub mod Judged
pub mod Wrong
