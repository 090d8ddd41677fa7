use Rattle.std.proofs.Common.{◌≡◌, drop}
use Rattle.packet_order.specs.Orders.{together}
use Rattle.run_book.specs.Writings.{counts_after, counts_in}
use Rattle.run_book.proofs.counts.with_parts.Given as goal

abbrev pub invariant-loop-part : goal.invariant-loop-part
invariant-loop-part l = counts_after (counts_in l.made) (together (drop l.part-index l.parts)).records ≡ counts_after (counts_in l.fn.counts) (together l.parts).records
