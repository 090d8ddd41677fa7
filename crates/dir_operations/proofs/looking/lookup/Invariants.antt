use Rattle.std.proofs.Common.{◌≡◌, take}
use Rattle.std.specs.Prelude.{filter}
use Rattle.dir_format.specs.Lookups.{is_meant, look_among}
use Rattle.dir_operations.proofs.looking.lookup.Given as goal

abbrev pub invariant-loop-entry : goal.invariant-loop-entry
invariant-loop-entry l = record {
  items : l.entry-items ≡ l.d;
  found : l.so_far ≡ look_among (filter (is_meant l.component) (take l.entry-index l.entry-items));
}
