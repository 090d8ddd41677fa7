use Rattle.std.proofs.Common.{ap, arith, ◌≡◌, ◌≤◌, ◌+◌, ◌-◌, ℕ, length, take, drop}
use Rattle.disk_model.proofs.SparseBytes.{piece_more}
use Rattle.disk_model.proofs.sparse_bytes.SparseBytes.write_across.Goals as goal

pub loop-done-preserved : goal.loop-done-preserved
loop-done-preserved c =
    let bytes = c.args.bytes.now in
    let i = c.loop-done.done in
    let n = c.min.result in
    let inside : i + n ≤ length bytes = omega (arith, c.min.ensures, c.loop-done-test.true) in
    let same : i + n - i ≡ n = omega arith in
    (piece_more c.args.self.now bytes c.loop-done.self c.write_within.new.self _ c.args.at i n c.loop-done.invariant.0 c.write_within.ensures (ap (λ (j : ℕ). take j (drop i bytes)) same) inside c.requires, inside)
