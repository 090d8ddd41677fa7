pub mod Rows
pub use Rattle.audit_past.specs.of_audit_acts as of_audit_acts
