pub mod Counting
pub mod Laid
pub mod Marked
pub mod Whole
pub use Rattle.shadow_pages.proofs as of_shadow_pages
