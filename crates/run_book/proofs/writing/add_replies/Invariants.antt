use Rattle.std.proofs.Common.{◌≡◌, ◌++◌, drop}
use Rattle.run_book.specs.Writings.{replies_of}
use Rattle.run_book.proofs.writing.add_replies.Given as goal

abbrev pub invariant-loop-what : goal.invariant-loop-what
invariant-loop-what l = l.out ++ replies_of (drop l.what-index l.records) ≡ l.initial.out ++ replies_of l.records
