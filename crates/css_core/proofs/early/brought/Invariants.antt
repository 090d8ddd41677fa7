use Rattle.std.proofs.Common.{◌≡◌, ◌++◌, drop}
use Rattle.std.specs.List.{flat_map}
use Rattle.role_steps.specs.Reports.{brought_files}
use Rattle.css_core.proofs.early.brought.Given as goal

abbrev pub invariant-loop-file : goal.invariant-loop-file
invariant-loop-file l = l.made ++ flat_map brought_files (drop l.file-index l.files) ≡ flat_map brought_files l.files
