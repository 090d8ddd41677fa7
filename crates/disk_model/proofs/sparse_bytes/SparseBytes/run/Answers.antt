use Rattle.std.proofs.Common.{arith, ap, ℕ, ◌≡◌, ◌≤◌, ◌<◌, ◌+◌, ◌∙◌, ◌/◌, ◌%◌, List, [], length, get_or, Option, Some, None}
use Rattle.std.specs.Prelude.{IfSome}
use Rattle.std.proofs.lemmas.Nat.{mod_below}
use Rattle.std.proofs.lemmas.List.{get_or_read}
use Rattle.std.specs.Borrow.{Bor}
use Rattle.disk_model.specs.Images.{bytes_at}
use Rattle.disk_model.proofs.SparseBytes.{chunk_of, kept_range}
use Rattle.disk_model.proofs.sparse_bytes.SparseBytes.run.Goals as goal

pub index-requires : goal.index-requires
index-requires c = omega (arith, c.self.inside.chunks.ok, chunk_of c.self.inside.chunks.items c.self.inside.len c.args.at c.args.self.now c.self.view_is c.self.invariant (omega (arith, c.requires)))

pub returns : goal.returns
returns c = some c.run.result c.run.ensures.bytes c.run.ensures.inside
  where
    chunks : List (List ℕ)
    chunks = c.self.inside.chunks.items

    there : c.args.at / 1048576 < length chunks
    there = chunk_of chunks c.self.inside.len c.args.at c.args.self.now c.self.view_is c.self.invariant (omega (arith, c.requires))

    is : c.index.result.now ≡ get_or chunks (c.args.at / 1048576) []
    is = get_or_read chunks (c.args.at / 1048576) c.index.result.now there c.index.ensures []

    some : (r : Option (Bor (List ℕ))) → IfSome r (λ bytes. bytes.now ≡ bytes_at c.index.result.now (c.args.at % 1048576) c.args.len) → IfSome r (λ _. c.args.at % 1048576 + c.args.len ≤ length c.index.result.now) → IfSome r (λ bytes. bytes.now ≡ bytes_at c.args.self.now c.args.at c.args.len)
    some None bytes inside = tt
    some (Some piece) bytes inside =
        bytes
        ∙ ap (λ (l : List ℕ). bytes_at l (c.args.at % 1048576) c.args.len) is
        ∙ kept_range chunks c.self.inside.len c.args.at c.args.len c.args.self.now c.self.view_is c.requires (omega (arith, c.if-len-from.false, mod_below c.args.at 1048576 (omega arith))) (omega (arith, inside, ap length is))
