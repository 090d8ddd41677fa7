use Rattle.std.proofs.Common.{◌≡◌, drop, take, ◌++◌}
use Rattle.conflict_flags.specs.Copies.{with_held}
use Rattle.conflict_flags.proofs.held.place_of.Given as goal

-- those that come before, and the rest with the copy
abbrev pub invariant-loop-at : goal.invariant-loop-at
invariant-loop-at l = take l.at l.made ++ with_held l.held (drop l.at l.made) ≡ with_held l.held l.made
