pub mod Seen
pub mod Replying
pub mod Writing
pub mod Starting
pub use Rattle.audit_acts.specs as of_audit_acts
pub use Rattle.audit_epochs.specs as of_audit_epochs
