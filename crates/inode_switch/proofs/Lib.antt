pub mod SlotBytes
pub mod Views
pub mod OldOrNew
pub mod Losing
pub mod Outside
pub mod TableBytes
pub mod VersionBytes
pub mod Cutting
pub use Rattle.gate_switch.proofs as of_gate_switch
