pub mod Contents
pub mod Hold
