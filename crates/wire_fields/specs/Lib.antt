pub mod Components
pub mod Parts
pub mod Refusals
pub mod Operations
pub mod Memberships
pub use Rattle.field_codec.specs as of_field_codec
pub use Rattle.trace_book.specs as of_trace_book
pub use Rattle.trace_book.specs.of_locus_ids as of_locus_ids
