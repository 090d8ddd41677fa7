use Rattle.std.proofs.Common.{List, sym, ap, subst}
use Rattle.std.specs.Prelude.{Err}
use Rattle.std.specs.List.{AllByRecursion}
use Rattle.packet_order.specs.Counts.{FitsIfCounted}
use Rattle.wire_messages.specs.declared.packet.Packet.{Packet}
use Rattle.world.proofs.world.World.note_told.Goals as goal

pub unreachable-requires : goal.unreachable-requires
unreachable-requires c = c.in-Err-Unfit.ensures.unfit (ap Err c.in-Err-Unfit.field-0-is) (subst (λ (ps : List Packet). AllByRecursion (λ p. FitsIfCounted p) ps) (sym c.requires) tt)
