use Rattle.std.proofs.Common.{arith, ap, ℕ, ◌∙◌, ◌/◌, ◌%◌, ◌-◌, cond, List, [], length, get_or}
use Rattle.std.proofs.lemmas.List.{get_or_read}
use Rattle.disk_model.specs.Images.{is_within}
use Rattle.disk_model.proofs.SparseBytes.{chunk_of, chunk_written}
use Rattle.disk_model.proofs.sparse_bytes.SparseBytes.write_within.Goals as goal

pub index_mut-requires : goal.index_mut-requires
index_mut-requires c = omega (arith, c.self.inside.chunks.ok, chunk_of c.self.inside.chunks.items c.self.inside.len c.args.at c.args.self.now c.self.view_is c.self.invariant (omega (arith, c.requires.inside)))

pub returns : goal.returns
returns c =
    let chunks = c.self.inside.chunks.items in
    let at = c.args.at in
    let there = chunk_of chunks c.self.inside.len at c.args.self.now c.self.view_is c.self.invariant (omega (arith, c.requires.inside)) in
    let is = get_or_read chunks (at / 1048576) c.index_mut.result.now there c.index_mut.ensures.value [] in
    chunk_written chunks c.write.new.self c.self.inside.len at c.args.self.now c.args.bytes.now c.self.view_is there c.requires.inside c.requires.chunk
    (λ k. c.write.ensures k ∙ ap (λ (l : List ℕ). cond (is_within (at % 1048576) (length c.args.bytes.now) k) (get_or c.args.bytes.now (k - at % 1048576) 0) (get_or l k 0)) is)
