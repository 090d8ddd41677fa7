use Rattle.std.proofs.Common.{arith, ap, ◌≤◌, ◌/◌, ◌%◌, [], length}
use Rattle.std.proofs.lemmas.Bool.Decides.{nat_tests}
use Rattle.std.proofs.lemmas.Nat.{mod_below}
use Rattle.std.proofs.lemmas.List.{get_or_read}
use Rattle.disk_model.proofs.SparseBytes.{chunk_of, blank_range}
use Rattle.disk_model.proofs.sparse_bytes.SparseBytes.is_blank.Goals as goal

pub index-requires : goal.index-requires
index-requires c = omega (arith, c.self.inside.chunks.ok, chunk_of c.self.inside.chunks.items c.self.inside.len c.args.at c.args.self.now c.self.view_is c.self.invariant (omega (arith, c.requires)))

pub returns-then-len-from : goal.returns-then-len-from
returns-then-len-from c blank =
    let chunks = c.self.inside.chunks.items in
    let there = chunk_of chunks c.self.inside.len c.args.at c.args.self.now c.self.view_is c.self.invariant (omega (arith, c.requires)) in
    let is = get_or_read chunks (c.args.at / 1048576) c.index.result.now there c.index.ensures [] in
    let behind : length c.index.result.now ≤ c.args.at % 1048576 = grind (arith, nat_tests, c.is_blank_from.ensures, blank) in
    blank_range chunks c.self.inside.len c.args.at c.args.len c.args.self.now c.self.view_is c.requires (omega (arith, c.if-len-from.true, mod_below c.args.at 1048576 (omega arith))) (omega (arith, behind, ap length is))
