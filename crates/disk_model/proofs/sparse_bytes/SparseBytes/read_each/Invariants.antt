use Rattle.std.proofs.Common.{◌≡◌, take, drop, length}
use Rattle.disk_model.proofs.sparse_bytes.SparseBytes.read_each.Given as goal

abbrev pub invariant-loop-i : goal.invariant-loop-i
invariant-loop-i l = (take l.i l.buf ≡ take l.i (drop l.at l.self)) × (length l.buf ≡ length l.initial.buf)
