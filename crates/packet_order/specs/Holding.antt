-- How a dispatch holds its parts.
use Rattle.std.specs.Prelude.{List, [], ◌∷◌}
use Rattle.wire_messages.specs.Outboxes.{Outgoing}
use Rattle.packet_order.specs.declared.holding.Parts.{Parts}
use Rattle.packet_order.specs.declared.holding.Parts.TheVariants.{None, One, Several}

-- the parts, the earliest first
abbrev pub parts_in : Parts → List Outgoing
parts_in None = []
parts_in (One part) = part ∷ []
parts_in (Several parts) = parts.items
