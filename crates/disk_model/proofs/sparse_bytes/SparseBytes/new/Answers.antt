use Rattle.std.proofs.Common.{ap, ◌∙◌, ℕ, List}
use Rattle.disk_model.specs.SparseBytes.{bytes_of}
use Rattle.disk_model.proofs.SparseBytes.{blank_bytes}
use Rattle.disk_model.proofs.sparse_bytes.SparseBytes.new.Goals as goal

pub returns : goal.returns
returns c = ap (λ (l : List (List ℕ)). bytes_of l 0 c.args.len) c.loop.invariant.0 ∙ blank_bytes c.loop.counter 0 c.args.len
