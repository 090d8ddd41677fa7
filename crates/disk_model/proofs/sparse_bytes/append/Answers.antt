use Rattle.std.proofs.Common.{◌≡◌, ◌≤◌, ◌+◌, ◌++◌, Bool, ap, ◌∙◌, arith, cond, length, vec_len, vec_capacity}
use Rattle.disk_model.proofs.sparse_bytes.append.Goals as goal

pub returns-clause-items : goal.returns-clause-items
returns-clause-items c =
    let old = c.args.to.now in
    let bytes = c.args.bytes.now in
    let room : vec_len old + length bytes ≤ vec_capacity old = omega (arith, old.ok, c.requires.fit) in
    c.extend_from_slice.ensures.items ∙ ap (λ (b : Bool). cond b (old.items ++ bytes) old.items) (c.extend_from_slice.ensures.succeeds room)
