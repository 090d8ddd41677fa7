use Rattle.std.proofs.Common.{◌≡◌, ◌-◌, drop}
use Rattle.tree_steps.proofs.Rooms.{changed_there}
use Rattle.tree_steps.proofs.room.less_changed.Given as goal

abbrev pub invariant-loop-instance : goal.invariant-loop-instance
invariant-loop-instance l = l.left - changed_there l.site (drop l.instance-index l.instances) ≡ l.pages - changed_there l.site l.instances
