pub mod Views
pub mod Roles
pub mod Taking
pub mod Adopting
pub mod Mending
pub mod Repeats
pub mod Writing
pub mod Fitting
pub use Rattle.packet_order.specs as of_packet_order
pub use Rattle.site_frame.specs as of_site_frame
pub use Rattle.site_packs.specs as of_site_packs
pub use Rattle.site_parts.specs as of_site_parts
pub use Rattle.site_parts.specs.of_site_tables as of_site_tables
pub use Rattle.site_parts.specs.of_storage_site as of_storage_site
pub use Rattle.site_parts.specs.of_storage_site.of_store_instances as of_store_instances
