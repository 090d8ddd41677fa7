pub mod Answers
pub mod Bodies
pub mod Packets
pub mod Outboxes
pub use Rattle.wire_fields.specs.of_trace_book as of_trace_book
pub use Rattle.wire_fields.specs as of_wire_fields
