use Rattle.std.proofs.Common.{◌≡◌, ◌-◌, drop}
use Rattle.tree_steps.proofs.Rooms.{held_there}
use Rattle.tree_steps.proofs.tree.TreeTables.less_held.Given as goal

abbrev pub invariant-loop-copy : goal.invariant-loop-copy
invariant-loop-copy l = l.left - held_there l.h l.self.group l.site (drop l.copy-index l.copy-items) ≡ l.pages - held_there l.h l.self.group l.site l.self.copies
