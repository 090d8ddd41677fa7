use Rattle.std.proofs.Common.{◌≡◌, ◌++◌, drop}
use Rattle.run_book.specs.Ledgers.{lines_text}
use Rattle.run_book.proofs.measures.add_text.Given as goal

abbrev pub invariant-loop-what : goal.invariant-loop-what
invariant-loop-what l = l.text ++ lines_text l.line (drop l.what-index l.records) ≡ l.initial.text ++ lines_text l.line l.records
