pub mod Codec
pub mod Fields
pub mod Sums
pub mod Lists
pub mod Reads
pub mod Shapes
pub use Rattle.locus_ids.specs as of_locus_ids
