use Rattle.std.proofs.Common.{◌≡◌, drop}
use Rattle.promises.specs.Past.{stamp_in}
use Rattle.audit_sites.proofs.copies.stamp_in.Given as goal

abbrev pub invariant-loop-copy : goal.invariant-loop-copy
invariant-loop-copy l = stamp_in (drop l.copy-index l.copies) l.file ≡ stamp_in l.copies l.file
