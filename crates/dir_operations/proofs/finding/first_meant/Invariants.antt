use Rattle.std.proofs.Common.{◌≡◌, drop}
use Rattle.std.specs.List.{find}
use Rattle.dir_format.specs.Lookups.{is_meant}
use Rattle.dir_operations.proofs.finding.first_meant.Given as goal

abbrev pub invariant-loop-entry : goal.invariant-loop-entry
invariant-loop-entry l = find (is_meant l.component) (drop l.entry-index l.entries) ≡ find (is_meant l.component) l.entries
