pub mod Cutting
pub mod Replace
pub mod Slots
pub mod View
pub use Rattle.gate_switch.specs as of_gate_switch
