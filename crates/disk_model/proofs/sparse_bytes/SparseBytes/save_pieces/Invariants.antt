use Rattle.std.proofs.Common.{◌≡◌, ◌≤◌, ◌-◌, ◌++◌, take, vec_capacity}
use Rattle.disk_model.specs.Images.{bytes_at}
use Rattle.disk_model.proofs.sparse_bytes.SparseBytes.save_pieces.Given as goal

abbrev pub invariant-loop-done : goal.invariant-loop-done
invariant-loop-done l = (l.to.items ≡ l.initial.to.items ++ take l.done (bytes_at l.self l.span.at l.span.len)) × (l.done ≤ l.span.len) × (vec_capacity l.initial.to ≤ vec_capacity l.to)

abbrev pub decreases-loop-done : goal.decreases-loop-done
decreases-loop-done l = l.span.len - l.done
