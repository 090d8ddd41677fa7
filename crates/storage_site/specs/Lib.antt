pub mod Wanting
pub mod Serving
pub mod Standing
pub mod Fitting
pub use Rattle.store_instances.specs as of_store_instances
