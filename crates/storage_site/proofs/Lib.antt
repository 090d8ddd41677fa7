pub mod Forgotten
pub mod Remembering
pub mod Chains
pub mod Standing
pub mod Placing
pub mod Serves
pub mod Opens
pub mod Fits
pub use Rattle.store_instances.proofs as of_store_instances
