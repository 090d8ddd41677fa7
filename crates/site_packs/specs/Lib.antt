pub mod Copies
pub mod Live
pub mod Packs
pub mod Reading
pub mod Mounting
pub mod Committing
pub mod Laying
pub mod Marking
pub mod Planning
pub mod Cutting
pub mod Formatting
pub use Rattle.inode_pack.specs as of_inode_pack
pub use Rattle.inode_pack.specs.of_new_contents as of_new_contents
pub use Rattle.page_marks.specs as of_page_marks
