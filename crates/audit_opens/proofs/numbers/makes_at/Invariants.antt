use Rattle.std.proofs.Common.{◌≡◌, ◌≤◌, [], length, filter, take}
use Rattle.promises.specs.Tree.{is_underway_at}
use Rattle.audit_opens.specs.Once.{past_of}
use Rattle.audit_opens.proofs.numbers.makes_at.Given as goal

abbrev pub invariant-loop-make : goal.invariant-loop-make
invariant-loop-make l = record {
  few : l.many ≤ l.make-index;
  counted : l.many ≡ length (filter (is_underway_at l.config (past_of [] l.calls []) l.t l.group l.site) (take l.make-index l.t.makes));
}
