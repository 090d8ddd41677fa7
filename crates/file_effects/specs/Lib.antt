pub mod Effects
pub mod Works
pub use Rattle.file_content.specs as of_file_content
