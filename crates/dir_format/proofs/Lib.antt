pub mod Tests
pub mod Fields
pub mod Orders
pub mod Filtering
pub mod Placing
pub mod FirstOf
pub mod Following
pub mod Whole
pub mod ContentOf
pub use Rattle.version_vector.proofs as of_version_vector
