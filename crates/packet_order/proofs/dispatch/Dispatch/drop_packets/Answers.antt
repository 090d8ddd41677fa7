use Rattle.std.proofs.Common.{ap, ◌∙◌}
use Rattle.packet_order.specs.Holding.{parts_in}
use Rattle.packet_order.specs.Orders.{together, unsent}
use Rattle.packet_order.proofs.Parts.{together_unsent}
use Rattle.packet_order.proofs.dispatch.Dispatch.drop_packets.Goals as goal

pub returns : goal.returns
returns c = ap together c.drop_all.ensures ∙ (together_unsent (parts_in c.self.inside.parts) ∙ ap unsent c.self.view_is)
