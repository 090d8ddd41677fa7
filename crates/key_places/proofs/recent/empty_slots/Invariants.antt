use Rattle.std.proofs.Common.{◌≡◌, true}
use Rattle.std.specs.List.{list_all}
use Rattle.key_places.proofs.Remembered.{is_empty}
use Rattle.key_places.proofs.recent.empty_slots.Given as goal

abbrev pub invariant-loop : goal.invariant-loop
invariant-loop l = (list_all is_empty l.slots.items ≡ true) × (is_empty l.none ≡ true)
