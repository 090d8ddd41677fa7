use Rattle.std.proofs.Common.{◌≡◌, drop}
use Rattle.std.specs.List.{find}
use Rattle.dir_format.specs.Lookups.{has_name}
use Rattle.dir_operations.proofs.finding.first_of_name.Given as goal

abbrev pub invariant-loop-entry : goal.invariant-loop-entry
invariant-loop-entry l = find (has_name l.name) (drop l.entry-index l.entries) ≡ find (has_name l.name) l.entries
