use Rattle.std.proofs.Common.{◌≡◌, ◌≤◌, ◌+◌, ap, sym, ◌∙◌, arith, List, ℕ, zero, length, replicate}
use Rattle.std.proofs.lemmas.List.{length-take-le, length-replicate}
use Rattle.disk_model.specs.Images.{overwritten, bytes_at}
use Rattle.disk_model.proofs.PutBack.{put_same}
use Rattle.disk_model.proofs.sparse_bytes.SparseBytes.copy_piece.Goals as goal

pub returns-then-is_blank-2 : goal.returns-then-is_blank-2
returns-then-is_blank-2 c =
    let old = c.args.self.now in
    let at = c.args.at in
    let len = c.args.len in
    sym (ap (λ (l : List ℕ). overwritten old at l) (c.is_blank.ensures c.if-is_blank.true ∙ sym (c.is_blank-then-is_blank.ensures c.if-is_blank-2.true)) ∙ put_same old at len (omega (arith, c.requires.long, c.requires.inside)))

pub returns : goal.returns
returns c =
    let zeros : length (replicate 512 zero) ≡ 512 = length-replicate 512 zero in
    c.write.ensures
    ∙ ap (λ (l : List ℕ). overwritten c.args.self.now c.args.at l)
    (c.read.ensures ∙ ap (λ (n : ℕ). bytes_at c.args.from.now c.args.at n) (length-take-le c.args.len _ (omega (arith, c.requires.few, zeros))))
