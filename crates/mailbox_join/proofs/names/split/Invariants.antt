use Rattle.std.proofs.Common.{◌≡◌, ◌++◌, take, drop}
use Rattle.trace_book.specs.Messages.{past, up_to}
use Rattle.mailbox_join.proofs.names.split.Given as goal

abbrev pub invariant-loop-i : goal.invariant-loop-i
invariant-loop-i l = (up_to l.byte l.text ≡ take l.i l.text ++ up_to l.byte (drop l.i l.text)) × (past l.byte l.text ≡ past l.byte (drop l.i l.text))
