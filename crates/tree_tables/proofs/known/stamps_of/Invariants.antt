use Rattle.std.proofs.Common.{◌≡◌, take}
use Rattle.tree_model.specs.State.{stamps_of}
use Rattle.tree_tables.proofs.known.stamps_of.Given as goal

abbrev pub invariant-loop-copy : goal.invariant-loop-copy
invariant-loop-copy l = l.made ≡ stamps_of (take l.copy-index l.known) l.ino
