use Rattle.std.proofs.Common.{◌≡◌, ◌==◌, drop, filter}
use Rattle.tree_model.specs.State.{with_all}
use Rattle.tree_model.specs.declared.copy.HeldCopy.{HeldCopy}
use Rattle.tree_tables.proofs.known.note_copies.Given as goal

abbrev pub invariant-loop-row : goal.invariant-loop-row
invariant-loop-row l = with_all (filter (λ (c : HeldCopy). c.site == l.site) (drop l.row-index l.copies)) l.known ≡ with_all (filter (λ (c : HeldCopy). c.site == l.site) l.copies) l.fn.known
