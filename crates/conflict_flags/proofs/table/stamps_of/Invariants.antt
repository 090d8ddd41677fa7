use Rattle.std.proofs.Common.{◌≡◌, take, map}
use Rattle.conflict_flags.proofs.table.stamps_of.Given as goal

abbrev pub invariant-loop-held : goal.invariant-loop-held
invariant-loop-held l = l.stamps ≡ map (λ held. held.stamp) (take l.held-index l.copies)
