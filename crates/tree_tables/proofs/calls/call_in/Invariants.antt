use Rattle.std.proofs.Common.{◌≡◌, drop}
use Rattle.std.specs.Option.{option_or, option_copied}
use Rattle.tree_model.specs.Lists.{latest}
use Rattle.tree_model.specs.State.{is_call_of}
use Rattle.tree_tables.proofs.calls.call_in.Given as goal

abbrev pub invariant-loop-row : goal.invariant-loop-row
invariant-loop-row l = option_or (latest (is_call_of l.call) (drop l.row-index l.calls)) (option_copied l.found) ≡ latest (is_call_of l.call) l.calls
