pub mod Layout
pub mod Fields
pub mod SlotFields
pub use Rattle.stored_versions.specs as of_stored_versions
pub use Rattle.stored_versions.specs.of_file_content as of_file_content
