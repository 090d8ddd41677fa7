pub mod Contents
pub mod Pages
pub use Rattle.locus_ids.specs as of_locus_ids
