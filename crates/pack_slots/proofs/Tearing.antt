-- Zeros that are written behind zeros.
use Rattle.std.proofs.Common.{◌≡◌, ⊎_elim, ℕ, ◌+◌, ◌-◌, ◌*◌, ◌≤◌, ◌<◌, List, length, get_or, ◌∙◌, ap, subst, arith, inl}
use Rattle.std.proofs.lemmas.Bool.{cases_lt}
use Rattle.disk_model.specs.Images.{overwritten}
use Rattle.inode_switch.proofs.of_gate_switch.Pieces.{put_outside}
use Rattle.inode_switch.proofs.of_gate_switch.Tearing.{is_outside, put_inside}

-- zeros written behind zeros
pub zeros_go_on : (now new zeros : List ℕ) (base i n : ℕ) → length zeros ≡ n → ((j : ℕ) → j < n → get_or zeros j 0 ≡ 0) → base + 1024 + n * i + n ≤ length now → new ≡ overwritten now (base + 1024 + n * i) zeros
    → ((k : ℕ) → 1024 ≤ k → k < 1024 + n * i → get_or now (base + k) 0 ≡ 0) → (k : ℕ) → 1024 ≤ k → k < 1024 + n * i + n → get_or new (base + k) 0 ≡ 0
zeros_go_on now new zeros base i n long are fits is before k low high = ap (λ (l : List ℕ). get_or l (base + k) 0) is ∙ ⊎_elim
    (λ (lt : k < 1024 + n * i). put_outside (base + 1024 + n * i) now zeros (base + k) (omega arith) (is_outside (base + 1024 + n * i) (length zeros) (base + k) (inl (omega arith))) ∙ before k low lt)
    (λ (le : 1024 + n * i ≤ k).
    let j = k - (1024 + n * i) in
    let e : base + 1024 + n * i + j ≡ base + k = omega arith in
    let below : j < n = omega arith in
    subst (λ (m : ℕ). get_or (overwritten now (base + 1024 + n * i) zeros) m 0 ≡ 0) e (put_inside now (base + 1024 + n * i) zeros j (omega arith) (omega arith) ∙ are j below))
    (cases_lt k (1024 + n * i))
