use Rattle.std.proofs.Common.{◌≡◌, ◌++◌, take, drop}
use Rattle.call_rules.specs.Opening.{with_name}
use Rattle.call_scripts.proofs.showing.place_for.Given as goal

abbrev pub invariant-loop-i : goal.invariant-loop-i
invariant-loop-i l = take l.i l.names ++ with_name l.name (drop l.i l.names) ≡ with_name l.name l.names
