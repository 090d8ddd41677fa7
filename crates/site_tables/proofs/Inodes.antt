-- Tables whose numbers are those of inodes.
use Rattle.std.proofs.Common.{◌≡◌, ℕ, zero, suc, ◌<◌, List, [], ◌∷◌, length, get_or, sym, subst, arith}
use Rattle.std.specs.List.{AllByRecursion}

-- what is so of all is so of the one at a place
pub all_at : {A : Type 0} (P : A → Type 0) (xs : List A) (i : ℕ) (x : A) → i < length xs → x ≡ get_or xs i x → AllByRecursion P xs → P x
all_at P [] i x less is all = absurd (omega (arith, less))
all_at P (y ∷ ys) zero x less is all = subst P (sym is) all.0
all_at P (y ∷ ys) (suc i) x less is all = all_at P ys i x (omega (arith, less)) is all.1
