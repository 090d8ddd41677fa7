use Rattle.std.proofs.Common.{ap, sym, arith, ◌≡◌, ◌≤◌, ◌+◌, ◌-◌, ◌++◌, ◌∙◌, ℕ, List, length, take, drop, append_assoc}
use Rattle.std.proofs.lemmas.List.{length-take-le}
use Rattle.std.proofs.Math.Seq.{take-add}
use Rattle.disk_model.specs.Images.{bytes_at}
use Rattle.disk_model.proofs.SparseBytes.{piece_of_range}
use Rattle.disk_model.proofs.sparse_bytes.SparseBytes.save_pieces.Goals as goal

pub loop-done-preserved : goal.loop-done-preserved
loop-done-preserved c =
    let self = c.args.self.now in
    let at = c.args.span.at in
    let len = c.args.span.len in
    let i = c.loop-done.done in
    let n = c.min.result in
    let old = c.args.to.now.items in
    let whole = bytes_at self at len in
    let inside : i + n ≤ len = omega (arith, c.min.ensures, c.loop-done-test.true) in
    let same : i + n - i ≡ n = omega arith in
    let part : length (take (i + n - i) c.loop-done.bytes) ≡ n = length-take-le (i + n - i) c.loop-done.bytes (omega (arith, same, c.min.array_long, c.min.ensures)) ∙ same in
    let piece : c.read.new.buf ≡ take n (drop i whole) = c.read.ensures ∙ ap (λ (j : ℕ). bytes_at self (at + i) j) part ∙ piece_of_range self at len i n inside c.requires.inside in (
      c.append.ensures.items
          ∙ ap (λ (l : List ℕ). l ++ c.read.new.buf) c.loop-done.invariant.0
          ∙ ap (λ (l : List ℕ). (old ++ take i whole) ++ l) piece
          ∙ append_assoc old (take i whole) (take n (drop i whole))
          ∙ ap (λ (l : List ℕ). old ++ l) (sym (take-add i n whole)),
      inside,
      omega (arith, c.loop-done.invariant.2, c.append.ensures.room),
    )
