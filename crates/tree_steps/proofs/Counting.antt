-- Numbers one after the other.
use Rattle.std.proofs.Common.{◌≡◌, ◌<◌, ◌+◌, ◌-◌, ◌∷◌, ℕ, suc, [], ap, ◌∙◌, arith}
use Rattle.commit_graph.specs.Vectors.{numbers_from}

-- where a number is left, it is the first of those that are left
pub next_after : (first k count : ℕ) → k < count → numbers_from (first + k) (count - k) ≡ (first + k) ∷ numbers_from (first + (k + 1)) (count - (k + 1))
next_after first k count h =
    let more : count - k ≡ suc (count - (k + 1)) = omega (arith, h) in
    let on : (first + k) + 1 ≡ first + (k + 1) = omega arith in
    ap (numbers_from (first + k)) more ∙ ap (λ n. (first + k) ∷ numbers_from n (count - (k + 1))) on

pub none_after : (first count : ℕ) → numbers_from (first + count) (count - count) ≡ []
none_after first count = let none : count - count ≡ 0 = omega arith in ap (numbers_from (first + count)) none
