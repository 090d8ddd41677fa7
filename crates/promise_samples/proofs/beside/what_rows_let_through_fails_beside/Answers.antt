use Rattle.std.proofs.Common.{arith, ◌≡◌, true, false, refl}
use Rattle.promise_samples.proofs.beside.what_rows_let_through_fails_beside.Goals as goal

-- the test isn't passed
fails : true ≡ false → ⊥
fails e = cc

pub returns-clause-rounds_are_large : goal.returns-clause-rounds_are_large
returns-clause-rounds_are_large c = λ k. fails (k 4 262144 refl (omega arith))
