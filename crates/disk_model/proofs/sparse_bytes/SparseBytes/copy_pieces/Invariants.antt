use Rattle.std.proofs.Common.{◌≡◌, ◌≤◌, ◌-◌, take}
use Rattle.disk_model.specs.Images.{overwritten, bytes_at}
use Rattle.disk_model.proofs.sparse_bytes.SparseBytes.copy_pieces.Given as goal

abbrev pub invariant-loop-done : goal.invariant-loop-done
invariant-loop-done l = (l.self ≡ overwritten l.initial.self l.span.at (take l.done (bytes_at l.from l.span.at l.span.len))) × (l.done ≤ l.span.len)

abbrev pub decreases-loop-done : goal.decreases-loop-done
decreases-loop-done l = l.span.len - l.done
