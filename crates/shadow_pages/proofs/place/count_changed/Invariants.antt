use Rattle.std.proofs.Common.{◌≡◌, ◌≤◌, take}
use Rattle.shadow_pages.specs.Working.{number_changed}
use Rattle.shadow_pages.proofs.place.count_changed.Given as goal

abbrev pub invariant-loop-i : goal.invariant-loop-i
invariant-loop-i l = (l.count ≡ number_changed (take l.i l.pages)) × (l.count ≤ l.i)
