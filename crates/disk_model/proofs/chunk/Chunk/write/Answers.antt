use Rattle.std.proofs.Common.{◌≡◌, ◌≤◌, ◌+◌, ◌-◌, cond, ap, ◌∙◌, List, ℕ, arith, length, get_or}
use Rattle.std.specs.Vec.{with_items}
use Rattle.std.proofs.lemmas.List.{with_items_is}
use Rattle.disk_model.specs.Images.{overwritten, is_within}
use Rattle.disk_model.proofs.Spans.{length-overwritten}
use Rattle.disk_model.proofs.SparseBytes.{put_places}
use Rattle.disk_model.proofs.chunk.Chunk.write.Goals as goal

pub returns-then-at-bytes : goal.returns-then-at-bytes
returns-then-at-bytes c k =
    let bytes = c.args.bytes.now in
    let at = c.args.at in
    let old = c.self.inside.written in
    let fits : at + length bytes ≤ length old.items = omega (arith, c.if-at-bytes.true, old.ok) in
    let put_is : c.put.new.to ≡ overwritten old.items at bytes = c.put.ensures ∙ ap (λ (l : List ℕ). overwritten l at bytes) c.deref_mut.ensures.value in
    let is : (with_items old c.put.new.to).items ≡ overwritten old.items at bytes = with_items_is old c.put.new.to (omega (arith, ap length put_is, length-overwritten old.items at bytes fits, old.ok)) ∙ put_is in
    ap (λ (l : List ℕ). get_or l k 0) is
    ∙ put_places old.items bytes at k fits
    ∙ ap (λ (l : List ℕ). cond (is_within at (length bytes) k) (get_or bytes (k - at) 0) (get_or l k 0)) c.self.view_is
