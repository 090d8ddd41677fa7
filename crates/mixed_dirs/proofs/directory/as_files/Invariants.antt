use Rattle.std.proofs.Common.{◌≡◌, take, map}
use Rattle.mixed_dirs.specs.Mixed.{as_file}
use Rattle.mixed_dirs.proofs.directory.as_files.Given as goal

abbrev pub invariant-loop-entry : goal.invariant-loop-entry
invariant-loop-entry l = l.made.items ≡ map as_file (take l.entry-index l.entries)
