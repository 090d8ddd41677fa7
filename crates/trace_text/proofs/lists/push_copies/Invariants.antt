use Rattle.std.proofs.Common.{◌≡◌, ◌++◌, take}
use Rattle.trace_book.specs.Text.{copies_text}
use Rattle.trace_text.proofs.lists.push_copies.Given as goal

abbrev pub invariant-loop-copy : goal.invariant-loop-copy
invariant-loop-copy l = l.out ≡ l.initial.out ++ copies_text (take l.copy-index l.copies)
