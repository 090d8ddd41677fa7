-- Numbers one after the other.
use Rattle.std.proofs.Common.{◌≡◌, ◌<◌, ◌+◌, ◌-◌, ◌∷◌, ℕ, suc, [], ap, arith}
use Rattle.commit_graph.specs.Vectors.{numbers_from}

-- where a number is left, it is the first of those that are left
pub next_number : (n end : ℕ) → n < end → numbers_from n (end - n) ≡ n ∷ numbers_from (n + 1) (end - (n + 1))
next_number n end h =
    let more : end - n ≡ suc (end - (n + 1)) = omega (arith, h) in
    ap (numbers_from n) more

pub no_number : (end : ℕ) → numbers_from end (end - end) ≡ []
no_number end = let none : end - end ≡ 0 = omega arith in ap (numbers_from end) none
