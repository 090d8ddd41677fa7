use Rattle.std.proofs.Common.{◌≡◌, drop}
use Rattle.std.specs.Str.{bytes_eq}
use Rattle.promises.specs.Same.{same_list}
use Rattle.audit_same.proofs.lists.same_names.Given as goal

abbrev pub invariant-loop-i : goal.invariant-loop-i
invariant-loop-i l = same_list bytes_eq (drop l.i l.a) (drop l.i l.b) ≡ same_list bytes_eq l.a l.b
