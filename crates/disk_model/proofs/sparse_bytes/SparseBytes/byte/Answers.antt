use Rattle.std.proofs.Common.{arith, ap, ◌∙◌, ℕ, ◌/◌, ◌%◌, List, [], get_or}
use Rattle.std.proofs.lemmas.List.{get_or_read}
use Rattle.disk_model.proofs.SparseBytes.{chunk_of, byte_is}
use Rattle.disk_model.proofs.sparse_bytes.SparseBytes.byte.Goals as goal

pub index-requires : goal.index-requires
index-requires c = omega (arith, c.self.inside.chunks.ok, chunk_of c.self.inside.chunks.items c.self.inside.len c.args.at c.args.self.now c.self.view_is c.self.invariant (omega (arith, c.requires)))

pub returns : goal.returns
returns c =
    let chunks = c.self.inside.chunks.items in
    let there = chunk_of chunks c.self.inside.len c.args.at c.args.self.now c.self.view_is c.self.invariant (omega (arith, c.requires)) in
    c.byte.ensures
    ∙ ap (λ (l : List ℕ). get_or l (c.args.at % 1048576) 0) (get_or_read chunks (c.args.at / 1048576) c.index.result.now there c.index.ensures [])
    ∙ byte_is chunks c.self.inside.len c.args.at c.args.self.now c.self.view_is c.requires
