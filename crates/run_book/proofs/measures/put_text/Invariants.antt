use Rattle.std.proofs.Common.{◌≡◌, ◌++◌, drop}
use Rattle.packet_order.specs.Orders.{together}
use Rattle.run_book.specs.Ledgers.{lines_text}
use Rattle.run_book.proofs.measures.put_text.Given as goal

abbrev pub invariant-loop-part : goal.invariant-loop-part
invariant-loop-part l = l.text ++ lines_text l.line (together (drop l.part-index l.parts)).records ≡ lines_text l.line (together l.parts).records
