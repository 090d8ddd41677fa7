use Rattle.std.proofs.Common.{◌≡◌, ◌++◌, map, take, drop}
use Rattle.packet_order.specs.Orders.{unsent}
use Rattle.packet_order.proofs.dispatch.drop_each.Given as goal

abbrev pub invariant-loop-part : goal.invariant-loop-part
invariant-loop-part l = l.part-items ≡ map unsent (take l.part-index l.fn.parts.items) ++ drop l.part-index l.fn.parts.items
