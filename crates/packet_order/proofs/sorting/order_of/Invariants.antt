use Rattle.std.proofs.Common.{◌≡◌, drop, length}
use Rattle.epoch_rules.specs.of_role_steps.Tables.{sorted_onto}
use Rattle.the_run.specs.Steps.{is_before, in_order}
use Rattle.packet_order.specs.Orders.{picked, ArePlaces}
use Rattle.packet_order.proofs.sorting.order_of.Given as goal

abbrev pub invariant-loop-next : goal.invariant-loop-next
invariant-loop-next l = (sorted_onto is_before (picked l.packets l.places) (drop l.next l.packets) ≡ in_order l.packets) × ArePlaces (length l.packets) l.places
