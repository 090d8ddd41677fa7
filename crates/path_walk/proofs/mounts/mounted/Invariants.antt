use Rattle.std.proofs.Common.{◌≡◌, drop}
use Rattle.call_rules.specs.Walks.{mounted}
use Rattle.path_walk.proofs.mounts.mounted.Given as goal

abbrev pub invariant-loop-mount : goal.invariant-loop-mount
invariant-loop-mount l = mounted (drop l.mount-index l.mounts) l.name ≡ mounted l.mounts l.name
