use Rattle.std.proofs.Common.{◌≡◌, ◌==◌, ◌&&◌, not, filter, take}
use Rattle.trace_book.specs.Same.{same_call}
use Rattle.promises.specs.Past.{Make}
use Rattle.audit_epochs.proofs.changes.makes_without.Given as goal

abbrev pub invariant-loop-make : goal.invariant-loop-make
invariant-loop-make l = l.made ≡ filter (λ (k : Make). not ((k.group == l.group) && same_call k.call l.call)) (take l.make-index l.makes)
