use Rattle.std.proofs.Common.{◌≡◌, ◌==◌, ◌++◌, drop}
use Rattle.std.specs.List.{slice_split}
use Rattle.path_walk.proofs.Splits.{onto_front}
use Rattle.path_walk.proofs.pieces.pieces.Given as goal

abbrev pub invariant-loop-c : goal.invariant-loop-c
invariant-loop-c l = l.names ++ onto_front l.piece (slice_split (λ b. b == 47) (drop l.c-index l.text)) ≡ slice_split (λ b. b == 47) l.text
