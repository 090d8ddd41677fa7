pub mod Found
pub mod Said
pub use Rattle.audit_call_rows.proofs.of_audit_row_parts as of_audit_row_parts
