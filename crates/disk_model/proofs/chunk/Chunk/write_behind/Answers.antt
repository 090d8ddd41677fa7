use Rattle.std.proofs.Common.{◌≡◌, ◌≤◌, ◌+◌, ◌-◌, cond, ap, ◌∙◌, List, ℕ, arith, length, get_or}
use Rattle.std.specs.Vec.{with_items}
use Rattle.std.proofs.lemmas.List.{with_items_is}
use Rattle.disk_model.specs.Images.{overwritten, is_within}
use Rattle.disk_model.proofs.Spans.{length-overwritten}
use Rattle.disk_model.proofs.SparseBytes.{put_places}
use Rattle.disk_model.proofs.chunk.Chunk.write_behind.Goals as goal

pub returns : goal.returns
returns c k =
    let bytes = c.args.bytes.now in
    let at = c.args.at in
    let grown = c.grow.new.written in
    let fits : at + length bytes ≤ length grown.items = omega (arith, c.grow.ensures.long) in
    let put_is : c.put.new.to ≡ overwritten grown.items at bytes = c.put.ensures ∙ ap (λ (l : List ℕ). overwritten l at bytes) c.deref_mut.ensures.value in
    let is : (with_items grown c.put.new.to).items ≡ overwritten grown.items at bytes = with_items_is grown c.put.new.to (omega (arith, ap length put_is, length-overwritten grown.items at bytes fits, grown.ok)) ∙ put_is in
    let kept : get_or grown.items k 0 ≡ get_or c.args.self.now k 0 = c.grow.ensures.kept k ∙ ap (λ (l : List ℕ). get_or l k 0) c.self.view_is in
    ap (λ (l : List ℕ). get_or l k 0) is
    ∙ put_places grown.items bytes at k fits
    ∙ ap (λ (n : ℕ). cond (is_within at (length bytes) k) (get_or bytes (k - at) 0) n) kept
