pub mod Fitting
pub mod Values
pub mod Reaching
pub use Rattle.run_laws.specs as of_run_laws
pub use Rattle.operation_effects.specs as of_operation_effects
pub use Rattle.packet_order.specs as of_packet_order
pub use Rattle.rest_laws.specs.of_store_laws as of_store_laws
pub use Rattle.rest_laws.specs.of_tree_laws as of_tree_laws
pub use Rattle.rest_laws.specs.of_site_laws as of_site_laws
pub use Rattle.rest_laws.specs.of_row_laws as of_row_laws
pub use Rattle.rest_laws.specs as of_rest_laws
