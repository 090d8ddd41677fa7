-- What a table of rows with keys gives.
use Rattle.std.proofs.Common.{◌≡◌, ℕ, ◌==◌, Bool, true, false, List, [], ◌∷◌, Option, Some, None, refl, sym, ap, ◌∙◌, subst, inl, inr}
use Rattle.role_steps.proofs.of_plain_facts.Numbers.{equal}
use Rattle.role_steps.proofs.of_plain_facts.Options.{none_some, some_same}
use Rattle.role_steps.specs.Own.{Every}
use Rattle.role_steps.specs.Tables.{row}
use Rattle.the_run.specs.Kept.{Among}

-- the row that is found has the key
pub row_key_is : {A : Type 0} (key : A → ℕ) (k : ℕ) (xs : List A) (x : A) → row key k xs ≡ Some x → key x ≡ k
row_key_is key k [] x e = absurd (none_some x e)
row_key_is key k (y ∷ ys) x e = at (key y == k) refl e (row_key_is key k ys x)
  where
    at : (b : Bool) → (key y == k) ≡ b → (elim b [ true ↦ Some y | false ↦ row key k ys ]) ≡ Some x → (row key k ys ≡ Some x → key x ≡ k) → key x ≡ k
    at true same e later = ap key (sym (some_same y x e)) ∙ equal (key y) k same
    at false other e later = later e

-- what every row has, the one that is found has
pub row_every : {A : Type 0} (P : A → Type 0) (key : A → ℕ) (k : ℕ) (xs : List A) (x : A) → Every P xs → row key k xs ≡ Some x → P x
row_every P key k [] x h e = absurd (none_some x e)
row_every P key k (y ∷ ys) x h e = at (key y == k) e (row_every P key k ys x h.1)
  where
    at : (b : Bool) → (elim b [ true ↦ Some y | false ↦ row key k ys ]) ≡ Some x → (row key k ys ≡ Some x → P x) → P x
    at true e later = subst P (some_same y x e) h.0
    at false e later = later e

pub every_among : {A : Type 0} (P : A → Type 0) (xs : List A) (x : A) → Every P xs → Among x xs → P x
every_among P [] x h a = absurd a
every_among P (y ∷ ys) x h (inl e) = subst P (sym e) h.0
every_among P (y ∷ ys) x h (inr a) = every_among P ys x h.1 a
