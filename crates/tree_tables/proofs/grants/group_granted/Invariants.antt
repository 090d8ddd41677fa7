use Rattle.std.proofs.Common.{◌≡◌, drop}
use Rattle.std.specs.List.{find}
use Rattle.tree_model.specs.State.{is_grant_of}
use Rattle.tree_tables.proofs.grants.group_granted.Given as goal

abbrev pub invariant-loop-row : goal.invariant-loop-row
invariant-loop-row l = find (is_grant_of l.inst) (drop l.row-index l.grants) ≡ find (is_grant_of l.inst) l.grants
