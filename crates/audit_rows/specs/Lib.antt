pub mod Acts
pub mod Mends
pub mod Room
pub mod Steps
pub use Rattle.audit_told_calls.specs as of_audit_told_calls
