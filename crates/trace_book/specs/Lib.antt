pub mod Text
pub mod Same
pub mod Names
pub mod Messages
pub use Rattle.locus_ids.specs as of_locus_ids
