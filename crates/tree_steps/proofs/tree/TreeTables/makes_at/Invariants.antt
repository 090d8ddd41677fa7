use Rattle.std.proofs.Common.{◌≡◌, ◌≤◌, length, filter, take}
use Rattle.tree_model.specs.Opening.{is_site, making_site}
use Rattle.tree_steps.proofs.tree.TreeTables.makes_at.Given as goal

abbrev pub invariant-loop-call : goal.invariant-loop-call
invariant-loop-call l = record {
  low : l.wanting ≤ l.call-index;
  counted : l.wanting ≡ length (filter (λ call. is_site (making_site l.self call) l.site) (take l.call-index l.call-items));
}
