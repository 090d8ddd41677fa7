use Rattle.std.proofs.Common.{◌≡◌, drop}
use Rattle.std.specs.List.{find}
use Rattle.dir_format.specs.Entries.{is_live}
use Rattle.dir_operations.proofs.finding.first_live.Given as goal

abbrev pub invariant-loop-entry : goal.invariant-loop-entry
invariant-loop-entry l = find (is_live) (drop l.entry-index l.entries) ≡ find (is_live) l.entries
