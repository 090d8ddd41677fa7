use Rattle.std.proofs.Common.{◌≡◌, ◌≤◌, ◌-◌, take, length}
use Rattle.disk_model.specs.Images.{overwritten}
use Rattle.disk_model.proofs.sparse_bytes.SparseBytes.write_across.Given as goal

abbrev pub invariant-loop-done : goal.invariant-loop-done
invariant-loop-done l = (l.self ≡ overwritten l.initial.self l.at (take l.done l.bytes)) × (l.done ≤ length l.bytes)

abbrev pub decreases-loop-done : goal.decreases-loop-done
decreases-loop-done l = length l.bytes - l.done
