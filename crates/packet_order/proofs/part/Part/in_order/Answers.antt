use Rattle.std.proofs.Common.{◌∙◌, ap, sym}
use Rattle.the_run.specs.Steps.{in_order}
use Rattle.packet_order.specs.Orders.{picked}
use Rattle.packet_order.proofs.Parts.{as_they_stand, at_places}
use Rattle.packet_order.proofs.part.Part.in_order.Goals as goal

pub returns-then-are_ascending-clause-order : goal.returns-then-are_ascending-clause-order
returns-then-are_ascending-clause-order c = as_they_stand c.args.outbox c.into_parts-packets.result.0 c.as_slice.result.now c.into_parts-packets.result.1 c.new-places.result
    c.into_parts-packets.ensures.packets c.into_parts-packets.ensures.records c.new-places.ensures c.as_slice.ensures (c.are_ascending.ensures c.if-are_ascending.true)

pub returns-clause-order : goal.returns-clause-order
returns-clause-order c = at_places c.args.outbox c.into_parts-packets.result.0 c.into_parts-packets.result.1 c.in_ok-places.places c.into_parts-packets.ensures.packets c.into_parts-packets.ensures.records
    (ap (λ xs. picked xs c.in_ok-places.places) (sym c.as_slice-2.ensures) ∙ (c.in_ok-places.ensures.order ∙ ap in_order c.as_slice-2.ensures))
