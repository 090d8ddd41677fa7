use Rattle.std.proofs.Common.{◌≡◌, ◌++◌, take, drop}
use Rattle.trace_book.specs.Names.{plain_name}
use Rattle.path_walk.proofs.grammar.plain_name.Given as goal

abbrev pub invariant-loop-i : goal.invariant-loop-i
invariant-loop-i l = plain_name l.component ≡ take l.i l.component ++ plain_name (drop l.i l.component)
