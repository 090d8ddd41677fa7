use Rattle.std.proofs.Common.{◌≡◌, drop}
use Rattle.role_steps.specs.Versions.{stamps_of}
use Rattle.role_steps.specs.Opens.{is_stamp_among}
use Rattle.css_versions.proofs.kept.has_stamp.Given as goal

abbrev pub invariant-loop-version : goal.invariant-loop-version
invariant-loop-version l = is_stamp_among l.stamp (stamps_of (drop l.version-index l.versions)) ≡ is_stamp_among l.stamp (stamps_of l.versions)
