use Rattle.std.proofs.Common.{◌≡◌, ◌++◌, drop}
use Rattle.role_steps.specs.Versions.{stamps_of}
use Rattle.css_versions.proofs.kept.stamps_of.Given as goal

abbrev pub invariant-loop-version : goal.invariant-loop-version
invariant-loop-version l = l.made ++ stamps_of (drop l.version-index l.versions) ≡ stamps_of l.versions
