use Rattle.std.proofs.Common.{◌≡◌, ◌++◌, take}
use Rattle.trace_book.specs.Text.{names_text}
use Rattle.trace_text.proofs.lists.push_names.Given as goal

abbrev pub invariant-loop-name : goal.invariant-loop-name
invariant-loop-name l = l.out ≡ l.initial.out ++ names_text (take l.name-index l.names)
