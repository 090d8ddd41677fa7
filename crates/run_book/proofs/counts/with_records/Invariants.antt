use Rattle.std.proofs.Common.{◌≡◌, drop}
use Rattle.run_book.specs.Writings.{counts_after, counts_in}
use Rattle.run_book.proofs.counts.with_records.Given as goal

abbrev pub invariant-loop-what : goal.invariant-loop-what
invariant-loop-what l = counts_after (counts_in l.made) (drop l.what-index l.records) ≡ counts_after (counts_in l.fn.counts) l.records
