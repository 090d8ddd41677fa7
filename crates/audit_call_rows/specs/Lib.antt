pub mod Asked
pub use Rattle.audit_row_parts.specs as of_audit_row_parts
