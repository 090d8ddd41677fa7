pub mod Staying
pub mod Opening
pub mod Making
pub mod Serving
