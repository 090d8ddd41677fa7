-- What an event sends and tells, in order.
use Rattle.std.specs.Prelude.{List}
use Rattle.wire_fields.specs.of_trace_book.declared.record.Record.{Record}
use Rattle.wire_messages.specs.declared.packet.Packet.{Packet}
use Rattle.wire_messages.specs.declared.outbox.Outbox.TheInside.{Inside}

pub record Outgoing : Type 0 where
  pub packets : List Packet
  pub records : List Record

abbrev pub outgoing : Inside → Outgoing
outgoing o = record { packets = o.packets; records = o.records }
