pub mod FitCallTaking
pub mod FitCallAdopting
pub mod FitCallJoining
pub mod FitCallAgreeing
pub mod MomentCourse
pub mod MomentRest
pub mod MomentMoments
pub mod MomentRows
pub mod MomentTables
pub mod MomentPulls
pub mod Acting
pub mod Sending
pub mod Lines
pub use Rattle.packet_laws.proofs.of_rest_laws as of_rest_laws
pub use Rattle.packet_laws.proofs.of_row_laws as of_row_laws
