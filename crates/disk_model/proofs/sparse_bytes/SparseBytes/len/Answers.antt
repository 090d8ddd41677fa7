use Rattle.std.proofs.Common.{sym, ◌∙◌, ap, List, ℕ, length}
use Rattle.disk_model.proofs.SparseBytes.{length-bytes_of}
use Rattle.disk_model.proofs.sparse_bytes.SparseBytes.len.Goals as goal

pub returns : goal.returns
returns c = sym (length-bytes_of c.self.inside.chunks.items 0 c.self.inside.len) ∙ ap (λ (l : List ℕ). length l) c.self.view_is
