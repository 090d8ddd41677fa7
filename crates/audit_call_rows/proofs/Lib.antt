pub mod Told
pub use Rattle.audit_row_parts.proofs as of_audit_row_parts
