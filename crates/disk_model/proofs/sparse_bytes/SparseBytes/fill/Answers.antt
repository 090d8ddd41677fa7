use Rattle.std.proofs.Common.{ap, arith, ◌≡◌, ◌≤◌, ◌+◌, ◌-◌, ◌∙◌, ℕ, take, replicate}
use Rattle.std.proofs.lemmas.List.{length-replicate}
use Rattle.disk_model.proofs.SparseBytes.{piece_more, piece_of_equal}
use Rattle.disk_model.proofs.sparse_bytes.SparseBytes.fill.Goals as goal

pub loop-done-preserved : goal.loop-done-preserved
loop-done-preserved c =
    let at = c.args.span.at in
    let len = c.args.span.len in
    let i = c.loop-done.done in
    let n = c.min.result in
    let byte = c.args.byte in
    let inside : i + n ≤ len = omega (arith, c.min.ensures, c.loop-done-test.true) in
    let low : n ≤ 512 = omega (arith, c.min.ensures) in
    let same : i + n - i ≡ n = omega arith in
    let whole = length-replicate len byte in
    (piece_more c.args.self.now (replicate len byte) c.loop-done.self c.write.new.self _ at i n c.loop-done.invariant.0 c.write.ensures (ap (λ (j : ℕ). take j (replicate 512 byte)) same ∙ piece_of_equal 512 len i n byte inside low) (omega (arith, inside, whole)) (omega (arith, whole, c.requires)), inside)
