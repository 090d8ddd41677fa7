pub mod Gates
pub mod Versions
pub mod Boots
pub use Rattle.file_content.specs as of_file_content
pub use Rattle.schedule_lines.specs as of_schedule_lines
