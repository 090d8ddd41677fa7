use Rattle.std.proofs.Common.{◌≡◌, ◌==◌, ◌++◌, drop, filter}
use Rattle.past_laws.specs.of_promises.Past.{Copy}
use Rattle.audit_copies.specs.Files.{all_copies}
use Rattle.audit_copies.proofs.known.Known.of_group.Given as goal

abbrev pub invariant-loop-place : goal.invariant-loop-place
invariant-loop-place l = l.made ++ filter (λ (v : Copy). v.file.group == l.group) (all_copies (drop l.place l.files)) ≡ filter (λ (v : Copy). v.file.group == l.group) (all_copies l.files)
