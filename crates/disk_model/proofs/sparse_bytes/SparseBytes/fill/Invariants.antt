use Rattle.std.proofs.Common.{◌≡◌, ◌≤◌, ◌-◌, take, replicate}
use Rattle.disk_model.specs.Images.{overwritten}
use Rattle.disk_model.proofs.sparse_bytes.SparseBytes.fill.Given as goal

abbrev pub invariant-loop-done : goal.invariant-loop-done
invariant-loop-done l = (l.self ≡ overwritten l.initial.self l.span.at (take l.done (replicate l.span.len l.fn.byte))) × (l.done ≤ l.span.len)

abbrev pub decreases-loop-done : goal.decreases-loop-done
decreases-loop-done l = l.span.len - l.done
