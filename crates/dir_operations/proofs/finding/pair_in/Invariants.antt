use Rattle.std.proofs.Common.{◌≡◌, drop}
use Rattle.std.specs.List.{find}
use Rattle.dir_format.specs.Entries.{is_pair}
use Rattle.dir_operations.proofs.finding.pair_in.Given as goal

abbrev pub invariant-loop-entry : goal.invariant-loop-entry
invariant-loop-entry l = find (is_pair l.name l.ino) (drop l.entry-index l.entries) ≡ find (is_pair l.name l.ino) l.entries
