pub mod Once
pub mod Looked
pub mod Meanings
pub use Rattle.audit_past.specs.of_audit_epochs as of_audit_epochs
pub use Rattle.audit_past.specs as of_audit_past
pub use Rattle.audit_call_rows.specs.of_audit_row_parts as of_audit_row_parts
