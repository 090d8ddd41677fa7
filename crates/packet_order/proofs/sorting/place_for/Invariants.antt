use Rattle.std.proofs.Common.{◌≡◌, ◌+◌, drop, slice_get, Some}
use Rattle.the_run.specs.Steps.{is_before}
use Rattle.packet_order.specs.Orders.{picked, place_before}
use Rattle.wire_messages.specs.declared.packet.Packet.{Packet}
use Rattle.packet_order.proofs.sorting.place_for.Given as goal

abbrev pub invariant-loop-i : goal.invariant-loop-i
invariant-loop-i l = (p : Packet) → slice_get l.packets l.next ≡ Some p → l.i + place_before is_before p (picked l.packets (drop l.i l.places)) ≡ place_before is_before p (picked l.packets l.places)
