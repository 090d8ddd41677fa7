-- The vectors of kept versions, one brought version more.
use Rattle.std.proofs.Common.{ℕ, ◌≤◌, List, false, ◌≡◌, ◌++◌, ◌∙◌, Bool, true, [], ◌∷◌, ap, sym, refl, ⊎_elim}
use Rattle.std.proofs.lemmas.Bool.{and_parts, cases_Bool, le-leb, leb-true}
use Rattle.std.proofs.lemmas.List.{append-nil}
use Rattle.locus_ids.specs.Sizes.{inodes_max}
use Rattle.locus_ids.specs.declared.ids.Brought.{Brought}
use Rattle.dir_reconcile.specs.declared.kept.KeptVector.{KeptVector}
use Rattle.tree_acts.specs.Acting.{has_number, is_number}
use Rattle.std.specs.Prelude.{◌&&◌, filter, map, nat_le}
use Rattle.role_steps.proofs.of_plain_facts.Tests.{and_true}

-- of one that passes this is left, and of one that doesn't nothing
pub left_of_one : (p : Brought → Bool) (f : Brought → KeptVector) (x : Brought) (y : KeptVector) → p x ≡ true → has_number (f x) ≡ true → y ≡ f x → y ∷ [] ≡ filter has_number (map f (filter p (x ∷ [])))
left_of_one p f x y t n e = rw t (rw n (ap (λ z. z ∷ []) e))

pub not_of_one : (p : Brought → Bool) (f : Brought → KeptVector) (x : Brought) → p x ≡ false → [] ≡ filter has_number (map f (filter p (x ∷ [])))
not_of_one p f x t = rw t refl

pub none_of_one : (p : Brought → Bool) (f : Brought → KeptVector) (x : Brought) → p x ≡ true → has_number (f x) ≡ false → [] ≡ filter has_number (map f (filter p (x ∷ [])))
none_of_one p f x t n = rw t (rw n refl)

pub with_none : (made rest : List KeptVector) → [] ≡ rest → made ≡ made ++ rest
with_none made rest e = sym (append-nil made) ∙ ap (λ vs. made ++ vs) e

-- the numbers that an inode can have
pub is_one : (ino : ℕ) → (1 ≤ ino) × (ino ≤ inodes_max) → is_number ino ≡ true
is_one ino h = and_true (nat_le 1 ino) (nat_le ino inodes_max) (le-leb 1 ino h.0) (le-leb ino inodes_max h.1)

pub is_none_else : (ino : ℕ) → ((1 ≤ ino) × (ino ≤ inodes_max) → ⊥) → is_number ino ≡ false
is_none_else ino out =
    ⊎_elim (λ (t : is_number ino ≡ true). let parts = and_parts (nat_le 1 ino) (nat_le ino inodes_max) t in absurd (out (leb-true 1 ino parts.0, leb-true ino inodes_max parts.1)))
    (λ (f : is_number ino ≡ false). f)
    (cases_Bool (is_number ino))
