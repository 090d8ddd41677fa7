pub mod Committing
pub mod Cutting
pub mod NextIno
pub mod Pack
pub mod PagePieces
pub mod Rows
pub use Rattle.new_contents.specs.of_shadow_pages as of_shadow_pages
pub use Rattle.new_contents.specs as of_new_contents
