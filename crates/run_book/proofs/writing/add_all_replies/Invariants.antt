use Rattle.std.proofs.Common.{◌≡◌, ◌++◌, drop}
use Rattle.packet_order.specs.Orders.{together}
use Rattle.run_book.specs.Writings.{replies_of}
use Rattle.run_book.proofs.writing.add_all_replies.Given as goal

abbrev pub invariant-loop-part : goal.invariant-loop-part
invariant-loop-part l = l.out ++ replies_of (together (drop l.part-index l.parts)).records ≡ l.initial.out ++ replies_of (together l.parts).records
