use Rattle.std.proofs.Common.{◌≡◌, ◌++◌, map, drop}
use Rattle.role_steps.specs.Mends.{kept_vector}
use Rattle.site_tables.proofs.kept.add_versions.Given as goal

abbrev pub invariant-loop-version : goal.invariant-loop-version
invariant-loop-version l = l.made ++ map (kept_vector l.ino) (drop l.version-index l.versions) ≡ l.initial.made ++ map (kept_vector l.ino) l.versions
