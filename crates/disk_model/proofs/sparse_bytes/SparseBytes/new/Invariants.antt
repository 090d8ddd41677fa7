use Rattle.std.proofs.Common.{◌≡◌, ◌≤◌, replicate, []}
use Rattle.std.specs.Prelude.{vec_capacity}
use Rattle.disk_model.proofs.sparse_bytes.SparseBytes.new.Given as goal

abbrev pub invariant-loop : goal.invariant-loop
invariant-loop l = (l.chunks.items ≡ replicate l.counter []) × (l.count ≤ vec_capacity l.chunks)
