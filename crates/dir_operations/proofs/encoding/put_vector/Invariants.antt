use Rattle.std.proofs.Common.{◌≡◌, ◌++◌, take}
use Rattle.dir_format.specs.Grammar.{vector_bytes}
use Rattle.dir_operations.proofs.encoding.put_vector.Given as goal

abbrev pub invariant-loop-n : goal.invariant-loop-n
invariant-loop-n l = record {
  items : l.n-items ≡ l.v;
  out : l.out ≡ l.initial.out ++ vector_bytes (take l.n-index l.n-items);
}
