use Rattle.std.proofs.Common.{◌∙◌, ap, sym, slice_get}
use Rattle.wire_messages.specs.Outboxes.{Outgoing}
use Rattle.packet_order.proofs.Parts.{found_at, none_at}
use Rattle.packet_order.proofs.part.Part.packet.Goals as goal

pub returns-in-Some : goal.returns-in-Some
returns-in-Some c = c.get-in-Some.ensures ∙ (found_at c.self.inside.packets c.self.inside.places c.args.i c.in-Some.place.now c.self.invariant (sym c.in-Some.ensures) ∙ ap (λ (o : Outgoing). slice_get o.packets c.args.i) c.self.view_is)

pub returns-in-None : goal.returns-in-None
returns-in-None c = none_at c.self.inside.packets c.self.inside.places c.args.i c.self.invariant (sym c.is_empty.ensures ∙ c.if-is_empty.false) (sym c.in-None.ensures) ∙ ap (λ (o : Outgoing). slice_get o.packets c.args.i) c.self.view_is
