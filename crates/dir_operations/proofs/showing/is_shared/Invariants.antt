use Rattle.std.proofs.Common.{◌≡◌, ◌==◌, ◌≤◌, take, length}
use Rattle.std.specs.Prelude.{filter}
use Rattle.dir_format.specs.Lookups.{has_name}
use Rattle.dir_operations.proofs.showing.is_shared.Given as goal

abbrev pub invariant-loop-entry : goal.invariant-loop-entry
invariant-loop-entry l = record {
  one : l.one ≡ (length (filter (has_name l.name) (take l.entry-index l.entries)) == 1);
  few : length (filter (has_name l.name) (take l.entry-index l.entries)) ≤ 1;
}
