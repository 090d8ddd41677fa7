use Rattle.std.proofs.Common.{◌≡◌, ◌++◌, drop}
use Rattle.std.specs.List.{flat_map}
use Rattle.role_steps.specs.Mends.{file_vectors}
use Rattle.site_tables.proofs.kept.kept_vectors.Given as goal

abbrev pub invariant-loop-file : goal.invariant-loop-file
invariant-loop-file l = l.made ++ flat_map file_vectors (drop l.file-index l.table.files) ≡ flat_map file_vectors l.table.files
