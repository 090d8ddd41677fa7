use Rattle.std.proofs.Common.{◌≡◌, take}
use Rattle.tree_model.specs.Tree.{without_make}
use Rattle.tree_steps.proofs.taking.without_make.Given as goal

abbrev pub invariant-loop-other : goal.invariant-loop-other
invariant-loop-other l = l.made ≡ without_make l.call (take l.other-index l.makes)
