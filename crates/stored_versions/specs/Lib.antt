pub mod Versions
pub mod Changes
pub use Rattle.file_content.specs as of_file_content
