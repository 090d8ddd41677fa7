pub mod FitCallJoining
pub mod MomentEvents
pub mod MomentMoments
pub mod Sends
pub mod Lines
pub use Rattle.packet_laws.specs.of_tree_laws as of_tree_laws
pub use Rattle.packet_laws.specs.of_row_laws as of_row_laws
