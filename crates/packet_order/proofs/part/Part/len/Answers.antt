use Rattle.std.proofs.Common.{length, ◌∙◌, ap}
use Rattle.wire_messages.specs.Outboxes.{Outgoing}
use Rattle.packet_order.proofs.Parts.{length_in_place}
use Rattle.packet_order.proofs.part.Part.len.Goals as goal

pub returns : goal.returns
returns c = length_in_place c.self.inside.packets c.self.inside.places c.len-count.result c.self.invariant c.len-count.ensures c.if-count-eq0.false ∙ ap (λ (o : Outgoing). length o.packets) c.self.view_is
