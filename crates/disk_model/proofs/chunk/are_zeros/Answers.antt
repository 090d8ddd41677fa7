use Rattle.std.proofs.Common.{ap, arith, ◌≡◌, ⊎_elim, ◌∙◌, ℕ, get_or}
use Rattle.std.proofs.lemmas.Nat.{le_or_l, le_or_r}
use Rattle.std.proofs.lemmas.Bool.{cases_eq}
use Rattle.disk_model.proofs.chunk.are_zeros.Goals as goal

pub loop-byte-preserved : goal.loop-byte-preserved
loop-byte-preserved c none k lt =
    let byte = get_or c.args.bytes.now c.loop-byte.byte-index 0 in
    let before : c.loop-byte.bits ≡ 0 = omega (arith, none, le_or_l c.loop-byte.bits byte) in
    let here : byte ≡ 0 = omega (arith, none, le_or_r c.loop-byte.bits byte) in
    ⊎_elim (λ same. ap (λ (j : ℕ). get_or c.args.bytes.now j 0) same ∙ here) (λ other. c.loop-byte.invariant before k (omega (arith, lt, other))) (cases_eq k c.loop-byte.byte-index)
