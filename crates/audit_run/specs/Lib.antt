pub mod Hearings
pub mod Ends
pub use Rattle.audit_answers.specs as of_audit_answers
pub use Rattle.audit_input.specs as of_audit_input
