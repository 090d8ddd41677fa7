-- Lists in which at most one passes, row by row.
use Rattle.std.proofs.Common.{◌≡◌, ◌≤◌, Bool, true, false, ◌||◌, cond, List, [], ◌∷◌, length, filter, Some, refl, sym, ap, subst, ◌∙◌, arith}
use Rattle.std.specs.List.{find, list_any, AllByRecursion}
use Rattle.promises.specs.Past.{first_or}
use Rattle.past_laws.proofs.Changing.{first_found}
use Rattle.past_laws.proofs.CallsLists.{each_more}
use Rattle.row_lists.proofs.Truth.{false_true, true_false}
use Rattle.row_lists.proofs.ByPlace.{first_alone, none_kept}

-- none passes: each by itself doesn't
pub each_not : {X : Type 0} (q : X → Bool) (xs : List X) → list_any q xs ≡ false → AllByRecursion (λ x. q x ≡ false) xs
each_not q [] h = tt
each_not {X} q (x ∷ xs) h = at (each_not q xs) (q x) refl h
  where
    at : (list_any q xs ≡ false → AllByRecursion (λ y. q y ≡ false) xs) → (b : Bool) → q x ≡ b → (b || list_any q xs) ≡ false → (q x ≡ false) × AllByRecursion (λ y. q y ≡ false) xs
    at later true e k = true_false k
    at later false e k = (e, later k)

pub few_more : {X : Type 0} (q : X → Bool) (x : X) (xs : List X) → length (filter q (x ∷ xs)) ≤ 1 → length (filter q xs) ≤ 1
few_more {X} q x xs few = at (q x) few
  where
    at : (b : Bool) → length (cond b (x ∷ filter q xs) (filter q xs)) ≤ 1 → length (filter q xs) ≤ 1
    at true k = omega (arith, k)
    at false k = k

-- what passes is what is found
pub found_one : {X : Type 0} (q : X → Bool) (xs : List X) → length (filter q xs) ≤ 1 → AllByRecursion (λ x. q x ≡ true → find q xs ≡ Some x) xs
found_one q [] few = tt
found_one {X} q (x ∷ xs) few = at (found_one q xs (few_more q x xs few)) (q x) refl
  where
    at : AllByRecursion (λ y. q y ≡ true → find q xs ≡ Some y) xs → (b : Bool) → q x ≡ b → (q x ≡ true → find q (x ∷ xs) ≡ Some x) × AllByRecursion (λ y. q y ≡ true → find q (x ∷ xs) ≡ Some y) xs
    at later true e = (λ h. rw e refl, each_more (λ y. q y ≡ false) (λ y. q y ≡ true → find q (x ∷ xs) ≡ Some y) (λ y f g. false_true (sym f ∙ g)) xs (each_not q xs (first_alone q x xs e few)))
    at later false e = (λ h. false_true (sym e ∙ h), each_more (λ y. q y ≡ true → find q xs ≡ Some y) (λ y. q y ≡ true → find q (x ∷ xs) ≡ Some y) (λ y f g. rw e (f g)) xs later)

pub first_one : {X : Type 0} (d : X) (q : X → Bool) (xs : List X) → length (filter q xs) ≤ 1 → AllByRecursion (λ x. q x ≡ true → first_or d q xs ≡ x) xs
first_one d q xs few = each_more (λ x. q x ≡ true → find q xs ≡ Some x) (λ x. q x ≡ true → first_or d q xs ≡ x) (λ x f h. first_found d q xs x (f h)) xs (found_one q xs few)

-- each is the one that passes a test of its own
pub kept_own : {X : Type 0} (p : X → X → Bool) → ((x : X) → p x x ≡ true) → (xs : List X) → ((x : X) → length (filter (p x) xs) ≤ 1) → AllByRecursion (λ x. filter (p x) xs ≡ x ∷ []) xs
kept_own p own [] few = tt
kept_own {X} p own (x ∷ xs) few = (rw (own x) (ap (λ ys. x ∷ ys) (none_kept (p x) xs (first_alone (p x) x xs (own x) (few x)))), each_more (λ y. filter (p y) xs ≡ y ∷ []) (λ y. filter (p y) (x ∷ xs) ≡ y ∷ []) (λ y h. at y (p y x) (few y) h) xs (kept_own p own xs (λ y. few_more (p y) x xs (few y))))
  where
    two : (y : X) (ys : List X) → ys ≡ y ∷ [] → length (x ∷ ys) ≤ 1 → x ∷ ys ≡ y ∷ []
    two y ys e k = absurd (let many : length (x ∷ y ∷ []) ≤ 1 = subst (λ (zs : List X). length (x ∷ zs) ≤ 1) e k in omega (arith, many))

    at : (y : X) (b : Bool) → length (cond b (x ∷ filter (p y) xs) (filter (p y) xs)) ≤ 1 → filter (p y) xs ≡ y ∷ [] → cond b (x ∷ filter (p y) xs) (filter (p y) xs) ≡ y ∷ []
    at y true k h = two y (filter (p y) xs) h k
    at y false k h = h

pub each_first : {X : Type 0} (P : X → Type 0) (d : X) (q : X → Bool) (xs : List X) → P d → AllByRecursion P xs → P (first_or d q xs)
each_first P d q [] other k = other
each_first {X} P d q (x ∷ xs) other k = at (q x) (each_first P d q xs other k.1)
  where
    at : (b : Bool) → P (first_or d q xs) → P (cond b x (first_or d q xs))
    at true later = k.0
    at false later = later
