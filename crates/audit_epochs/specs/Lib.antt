pub mod Changes
pub mod Places
pub use Rattle.audit_instances.specs as of_audit_instances
