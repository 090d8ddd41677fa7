pub mod Lacking
pub mod Refusing
pub mod Told
