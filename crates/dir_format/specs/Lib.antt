pub mod Entries
pub mod Places
pub mod Grammar
pub mod Contents
pub mod Lookups
pub mod Effects
pub use Rattle.trace_book.specs as of_trace_book
pub use Rattle.field_codec.specs.of_locus_ids as of_locus_ids
pub use Rattle.version_vector.specs as of_version_vector
