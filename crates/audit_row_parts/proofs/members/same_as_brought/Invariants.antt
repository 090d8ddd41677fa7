use Rattle.std.proofs.Common.{◌≡◌, drop}
use Rattle.tree_model.specs.Same.{same_brought}
use Rattle.promises.specs.Same.{same_list}
use Rattle.audit_row_parts.specs.Parts.{brought_of}
use Rattle.audit_row_parts.proofs.members.same_as_brought.Given as goal

abbrev pub invariant-loop-i : goal.invariant-loop-i
invariant-loop-i l = same_list same_brought (drop l.i l.told) (brought_of (drop l.i l.known)) ≡ same_list same_brought l.told (brought_of l.known)
