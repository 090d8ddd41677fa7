pub mod PartLaws
pub mod Members
pub mod Refusing
pub mod Operating
pub use Rattle.field_codec.proofs as of_field_codec
