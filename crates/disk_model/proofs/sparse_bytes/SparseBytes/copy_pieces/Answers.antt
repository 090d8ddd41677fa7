use Rattle.std.proofs.Common.{ap, arith, ◌≡◌, ◌≤◌, ◌+◌, ◌-◌, ◌∙◌, ℕ, length, take, drop}
use Rattle.std.proofs.lemmas.List.{length-take-le, length-drop}
use Rattle.disk_model.specs.Images.{bytes_at}
use Rattle.disk_model.proofs.SparseBytes.{piece_more, piece_of_range}
use Rattle.disk_model.proofs.sparse_bytes.SparseBytes.copy_pieces.Goals as goal

pub loop-done-preserved : goal.loop-done-preserved
loop-done-preserved c =
    let from = c.args.from.now in
    let at = c.args.span.at in
    let len = c.args.span.len in
    let i = c.loop-done.done in
    let n = c.min.result in
    let inside : i + n ≤ len = omega (arith, c.min.ensures, c.loop-done-test.true) in
    let whole : length (bytes_at from at len) ≡ len = length-take-le len (drop at from) (omega (arith, c.requires.inside, length-drop at from)) in
    let same : i + n - i ≡ n = omega arith in
    let piece : bytes_at from (at + i) (i + n - i) ≡ take n (drop i (bytes_at from at len)) = ap (λ (j : ℕ). bytes_at from (at + i) j) same ∙ piece_of_range from at len i n inside c.requires.inside in
    (piece_more c.args.self.now (bytes_at from at len) c.loop-done.self c.copy_piece.new.self (bytes_at from (at + i) (i + n - i)) at i n c.loop-done.invariant.0 c.copy_piece.ensures piece (omega (arith, inside, whole)) (omega (arith, whole, c.requires.long, c.requires.inside)), inside)
