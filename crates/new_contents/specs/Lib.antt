pub mod Changed
pub mod Laid
pub mod Marked
pub mod Whole
pub use Rattle.shadow_pages.specs as of_shadow_pages
