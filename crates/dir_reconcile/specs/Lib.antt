pub mod Joins
pub mod Merging
pub mod Rescues
pub use Rattle.dir_format.specs as of_dir_format
pub use Rattle.dir_format.specs.of_version_vector as of_version_vector
pub use Rattle.dir_format.specs.of_trace_book as of_trace_book
