use Rattle.std.proofs.Common.{◌≡◌, ◌≤◌, length, take}
use Rattle.audit_tree.specs.Parts.{used_among}
use Rattle.audit_tree.proofs.opening.numbers_used.Given as goal

abbrev pub invariant-loop-copy : goal.invariant-loop-copy
invariant-loop-copy l = record {
  few : l.used ≤ l.copy-index;
  counted : l.used ≡ length (used_among l.group l.site (take l.copy-index l.copies));
}
