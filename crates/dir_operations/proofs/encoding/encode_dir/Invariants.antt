use Rattle.std.proofs.Common.{◌≡◌, ◌++◌, take}
use Rattle.dir_format.specs.Grammar.{dir_bytes}
use Rattle.dir_operations.proofs.encoding.encode_dir.Given as goal

abbrev pub invariant-loop-entry : goal.invariant-loop-entry
invariant-loop-entry l = record {
  items : l.entry-items ≡ l.d;
  out : l.out ≡ l.initial.out ++ dir_bytes (take l.entry-index l.entry-items);
}
