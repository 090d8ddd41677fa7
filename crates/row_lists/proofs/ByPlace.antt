-- A list in which at most one passes, and the one at a place does: what the list is that is changed there, and what is found, kept,
-- summed and folded.
use Rattle.std.proofs.Common.{◌≡◌, ℕ, zero, suc, ◌+◌, ◌≤◌, ◌<◌, Bool, true, false, not, ◌&&◌, ◌||◌, cond, List, [], ◌∷◌, length, filter, map, set, get_or, Some, None, refl, sym, ap, ◌∙◌, arith}
use Rattle.std.specs.Prelude.{sum_by, fold}
use Rattle.std.specs.List.{find, list_any, remove}
use Rattle.std.proofs.lemmas.List.Sums.{sum_by-cons}
use Rattle.row_lists.proofs.Truth.{true_false, alone}

-- Nothing passes.

pub none_kept : {X : Type 0} (p : X → Bool) (xs : List X) → list_any p xs ≡ false → filter p xs ≡ []
none_kept p [] h = refl
none_kept {X} p (x ∷ xs) h = at (none_kept p xs) (p x) refl
  where
    at : (list_any p xs ≡ false → filter p xs ≡ []) → (b : Bool) → p x ≡ b → filter p (x ∷ xs) ≡ []
    at later true e = true_false (rw e at h)
    at later false e = rw e (later (rw e at h))

pub none_found : {X : Type 0} (p : X → Bool) (xs : List X) → list_any p xs ≡ false → find p xs ≡ None
none_found p [] h = refl
none_found {X} p (x ∷ xs) h = at (none_found p xs) (p x) refl
  where
    at : (list_any p xs ≡ false → find p xs ≡ None) → (b : Bool) → p x ≡ b → find p (x ∷ xs) ≡ None
    at later true e = true_false (rw e at h)
    at later false e = rw e (later (rw e at h))

pub none_changed : {X : Type 0} (p : X → Bool) (f : X → X) (xs : List X) → list_any p xs ≡ false → map (λ x. cond (p x) (f x) x) xs ≡ xs
none_changed p f [] h = refl
none_changed {X} p f (x ∷ xs) h = at (none_changed p f xs) (p x) refl
  where
    at : (list_any p xs ≡ false → map (λ y. cond (p y) (f y) y) xs ≡ xs) → (b : Bool) → p x ≡ b → map (λ y. cond (p y) (f y) y) (x ∷ xs) ≡ x ∷ xs
    at later true e = true_false (rw e at h)
    at later false e = rw e (ap (λ ys. x ∷ ys) (later (rw e at h)))

pub none_left_out : {X : Type 0} (p : X → Bool) (xs : List X) → list_any p xs ≡ false → filter (λ x. not (p x)) xs ≡ xs
none_left_out p [] h = refl
none_left_out {X} p (x ∷ xs) h = at (none_left_out p xs) (p x) refl
  where
    at : (list_any p xs ≡ false → filter (λ y. not (p y)) xs ≡ xs) → (b : Bool) → p x ≡ b → filter (λ y. not (p y)) (x ∷ xs) ≡ x ∷ xs
    at later true e = true_false (rw e at h)
    at later false e = rw e (ap (λ ys. x ∷ ys) (later (rw e at h)))

-- where none at any place passes, none does
pub none_by_place : {X : Type 0} (p : X → Bool) (xs : List X) (d : X) → ((j : ℕ) → j < length xs → p (get_or xs j d) ≡ false) → list_any p xs ≡ false
none_by_place p [] d h = refl
none_by_place p (x ∷ xs) d h = ap (λ b. b || list_any p xs) (h 0 (omega arith)) ∙ none_by_place p xs d (λ j l. h (suc j) (omega (arith, l)))

-- and none at a place passes where none does
pub none_at : {X : Type 0} (p : X → Bool) (xs : List X) (d : X) (j : ℕ) → j < length xs → list_any p xs ≡ false → p (get_or xs j d) ≡ false
none_at p [] d j l h = absurd (omega (arith, l))
none_at p (x ∷ xs) d zero l h = at (p x) refl
  where
    at : (b : Bool) → p x ≡ b → p x ≡ false
    at true e = true_false (rw e at h)
    at false e = e
none_at p (x ∷ xs) d (suc j) l h = none_at p xs d j (omega (arith, l)) (at (p x) (list_any p xs) h)
  where
    at : (a b : Bool) → (a || b) ≡ false → b ≡ false
    at true b e = true_false e
    at false b e = e

-- One passes at a place.

pub any_at : {X : Type 0} (p : X → Bool) (xs : List X) (d : X) (i : ℕ) → i < length xs → p (get_or xs i d) ≡ true → list_any p xs ≡ true
any_at p [] d i l h = absurd (omega (arith, l))
any_at p (x ∷ xs) d zero l h = ap (λ b. b || list_any p xs) h
any_at p (x ∷ xs) d (suc i) l h = later (p x) (list_any p xs) (any_at p xs d i (omega (arith, l)) h)
  where
    later : (a b : Bool) → b ≡ true → (a || b) ≡ true
    later true b e = refl
    later false b e = e

-- the first passes and no more may: none of the others does
pub first_alone : {X : Type 0} (p : X → Bool) (x : X) (xs : List X) → p x ≡ true → length (filter p (x ∷ xs)) ≤ 1 → list_any p xs ≡ false
first_alone {X} p x xs h few = none xs (alone x (filter p xs) (rw h at few))
  where
    none : (ys : List X) → filter p ys ≡ [] → list_any p ys ≡ false
    none [] e = refl
    none (y ∷ ys) e = at (none ys) (p y) refl
      where
        filled : {A : Type 0} {zs : List X} → ◌≡◌ {A = List X} (y ∷ zs) [] → A
        filled q = absurd (cc)

        at : (filter p ys ≡ [] → list_any p ys ≡ false) → (b : Bool) → p y ≡ b → list_any p (y ∷ ys) ≡ false
        at later true f = filled (rw f at e)
        at later false f = rw f (later (rw f at e))

-- the first doesn't pass, where a later one does and no more may
pub first_not : {X : Type 0} (p : X → Bool) (x : X) (xs : List X) (d : X) (i : ℕ) → i < length xs → p (get_or xs i d) ≡ true → length (filter p (x ∷ xs)) ≤ 1 → p x ≡ false
first_not {X} p x xs d i l h few = at (p x) refl
  where
    at : (b : Bool) → p x ≡ b → p x ≡ false
    at true e = true_false (sym (any_at p xs d i l h) ∙ first_alone p x xs e few)
    at false e = e

few_left : {X : Type 0} (p : X → Bool) (x : X) (xs : List X) → p x ≡ false → length (filter p (x ∷ xs)) ≤ 1 → length (filter p xs) ≤ 1
few_left p x xs e few = rw e at few

-- the changed list is the one with this row changed
pub change_at : {X : Type 0} (p : X → Bool) (f : X → X) (xs : List X) (d : X) (i : ℕ) → i < length xs → p (get_or xs i d) ≡ true → length (filter p xs) ≤ 1 → map (λ x. cond (p x) (f x) x) xs ≡ set xs i (f (get_or xs i d))
change_at p f [] d i l h few = absurd (omega (arith, l))
change_at {X} p f (x ∷ xs) d zero l h few = rw h (ap (λ ys. f x ∷ ys) (none_changed p f xs (first_alone p x xs h few)))
change_at {X} p f (x ∷ xs) d (suc i) l h few = go (change_at p f xs d i (omega (arith, l)) h) (first_not p x xs d i (omega (arith, l)) h few)
  where
    go : (length (filter p xs) ≤ 1 → map (λ y. cond (p y) (f y) y) xs ≡ set xs i (f (get_or xs i d))) → p x ≡ false → map (λ y. cond (p y) (f y) y) (x ∷ xs) ≡ x ∷ set xs i (f (get_or xs i d))
    go later e = rw e (ap (λ ys. x ∷ ys) (later (few_left p x xs e few)))

pub filter_at : {X : Type 0} (p : X → Bool) (xs : List X) (d : X) (i : ℕ) → i < length xs → p (get_or xs i d) ≡ true → length (filter p xs) ≤ 1 → filter p xs ≡ get_or xs i d ∷ []
filter_at p [] d i l h few = absurd (omega (arith, l))
filter_at p (x ∷ xs) d zero l h few = rw h (ap (λ ys. x ∷ ys) (none_kept p xs (first_alone p x xs h few)))
filter_at {X} p (x ∷ xs) d (suc i) l h few = go (filter_at p xs d i (omega (arith, l)) h) (first_not p x xs d i (omega (arith, l)) h few)
  where
    go : (length (filter p xs) ≤ 1 → filter p xs ≡ get_or xs i d ∷ []) → p x ≡ false → filter p (x ∷ xs) ≡ get_or xs i d ∷ []
    go later e = rw e (later (few_left p x xs e few))

pub find_at : {X : Type 0} (p : X → Bool) (xs : List X) (d : X) (i : ℕ) → i < length xs → p (get_or xs i d) ≡ true → length (filter p xs) ≤ 1 → find p xs ≡ Some (get_or xs i d)
find_at p [] d i l h few = absurd (omega (arith, l))
find_at p (x ∷ xs) d zero l h few = rw h refl
find_at {X} p (x ∷ xs) d (suc i) l h few = go (find_at p xs d i (omega (arith, l)) h) (first_not p x xs d i (omega (arith, l)) h few)
  where
    go : (length (filter p xs) ≤ 1 → find p xs ≡ Some (get_or xs i d)) → p x ≡ false → find p (x ∷ xs) ≡ Some (get_or xs i d)
    go later e = rw e (later (few_left p x xs e few))

-- the first of those that pass is this one, with no word of how many do
pub find_first_at : {X : Type 0} (p : X → Bool) (xs : List X) (d : X) (i : ℕ) → i < length xs → p (get_or xs i d) ≡ true → ((j : ℕ) → j < i → p (get_or xs j d) ≡ false) → find p xs ≡ Some (get_or xs i d)
find_first_at p [] d i l h before = absurd (omega (arith, l))
find_first_at p (x ∷ xs) d zero l h before = rw h refl
find_first_at {X} p (x ∷ xs) d (suc i) l h before = go (find_first_at p xs d i (omega (arith, l)) h (λ j m. before (suc j) (omega (arith, m)))) (before 0 (omega arith))
  where
    go : find p xs ≡ Some (get_or xs i d) → p x ≡ false → find p (x ∷ xs) ≡ Some (get_or xs i d)
    go later e = rw e later

-- no other place passes
pub other_at : {X : Type 0} (p : X → Bool) (xs : List X) (d : X) (i j : ℕ) → i < length xs → j < length xs → (i ≡ j → ⊥) → p (get_or xs i d) ≡ true → length (filter p xs) ≤ 1 → p (get_or xs j d) ≡ false
other_at p [] d i j l m apart h few = absurd (omega (arith, l))
other_at p (x ∷ xs) d zero zero l m apart h few = absurd (apart refl)
other_at p (x ∷ xs) d zero (suc j) l m apart h few = none_at p xs d j (omega (arith, m)) (first_alone p x xs h few)
other_at p (x ∷ xs) d (suc i) zero l m apart h few = first_not p x xs d i (omega (arith, l)) h few
other_at p (x ∷ xs) d (suc i) (suc j) l m apart h few = other_at p xs d i j (omega (arith, l)) (omega (arith, m)) (λ e. apart (ap suc e)) h (few_left p x xs (first_not p x xs d i (omega (arith, l)) h few) few)

-- what is asked of those that pass is asked of this one
pub any_both_at : {X : Type 0} (p q : X → Bool) (xs : List X) (d : X) (i : ℕ) → i < length xs → p (get_or xs i d) ≡ true → length (filter p xs) ≤ 1 → list_any (λ x. p x && q x) xs ≡ q (get_or xs i d)
any_both_at {X} p q xs d i l h few = both xs ∙ (ap (list_any q) (filter_at p xs d i l h few) ∙ end (q (get_or xs i d)))
  where
    both : (ys : List X) → list_any (λ x. p x && q x) ys ≡ list_any q (filter p ys)
    both [] = refl
    both (y ∷ ys) = at (p y) (both ys)
      where
        at : (b : Bool) → list_any (λ x. p x && q x) ys ≡ list_any q (filter p ys) → ((b && q y) || list_any (λ x. p x && q x) ys) ≡ list_any q (cond b (y ∷ filter p ys) (filter p ys))
        at true later = ap (λ b. q y || b) later
        at false later = later

    end : (b : Bool) → (b || false) ≡ b
    end true = refl
    end false = refl

pub sum_at : {X : Type 0} (g : X → ℕ) (p : X → Bool) (xs : List X) (d : X) (i : ℕ) → i < length xs → p (get_or xs i d) ≡ true → length (filter p xs) ≤ 1 → sum_by g (filter p xs) ≡ g (get_or xs i d)
sum_at g p xs d i l h few = ap (sum_by g) (filter_at p xs d i l h few) ∙ (sum_by-cons g (get_or xs i d) [] ∙ end (g (get_or xs i d)))
  where
    end : (n : ℕ) → n + 0 ≡ n
    end n = omega arith

pub fold_at : {X Y : Type 0} (step : Y → X → Y) (a : Y) (p : X → Bool) (xs : List X) (d : X) (i : ℕ) → i < length xs → p (get_or xs i d) ≡ true → length (filter p xs) ≤ 1 → fold step a (filter p xs) ≡ step a (get_or xs i d)
fold_at step a p xs d i l h few = ap (fold step a) (filter_at p xs d i l h few)

-- One passes.

-- the only one that is kept is the one that is found
pub kept_finds : {X : Type 0} (p : X → Bool) (xs : List X) (x : X) → filter p xs ≡ x ∷ [] → find p xs ≡ Some x
kept_finds {X} p [] x e = absurd (empty e)
  where
    empty : ◌≡◌ {A = List X} [] (x ∷ []) → ⊥
    empty k = cc
kept_finds {X} p (y ∷ xs) x e = over (kept_finds p xs x) (p y) e
  where
    first : (ys : List X) → y ∷ ys ≡ x ∷ [] → y ≡ x
    first ys k = cc

    over : (filter p xs ≡ x ∷ [] → find p xs ≡ Some x) → (b : Bool) → cond b (y ∷ filter p xs) (filter p xs) ≡ x ∷ [] → cond b (Some y) (find p xs) ≡ Some x
    over later true k = ap Some (first (filter p xs) k)
    over later false k = later k

-- a row more, of which there was none
pub once_more : {X : Type 0} (p : X → Bool) (x : X) (xs : List X) → list_any p xs ≡ false → length (filter p (x ∷ xs)) ≤ 1
once_more {X} p x xs h = at (p x)
  where
    short : (ys : List X) → ys ≡ [] → length (x ∷ ys) ≤ 1
    short [] e = omega arith
    short (y ∷ ys) e = absurd (filled e)
      where
        filled : ◌≡◌ {A = List X} (y ∷ ys) [] → ⊥
        filled k = cc

    less : (ys : List X) → ys ≡ [] → length ys ≤ 1
    less ys e = rw e (omega arith)

    at : (b : Bool) → length (cond b (x ∷ filter p xs) (filter p xs)) ≤ 1
    at true = short (filter p xs) (none_kept p xs h)
    at false = less (filter p xs) (none_kept p xs h)

-- the list without it
pub without_at : {X : Type 0} (p : X → Bool) (xs : List X) (d : X) (i : ℕ) → i < length xs → p (get_or xs i d) ≡ true → length (filter p xs) ≤ 1 → filter (λ x. not (p x)) xs ≡ remove xs i
without_at p [] d i l h few = absurd (omega (arith, l))
without_at p (x ∷ xs) d zero l h few = rw h (none_left_out p xs (first_alone p x xs h few))
without_at {X} p (x ∷ xs) d (suc i) l h few = go (without_at p xs d i (omega (arith, l)) h) (first_not p x xs d i (omega (arith, l)) h few)
  where
    go : (length (filter p xs) ≤ 1 → filter (λ y. not (p y)) xs ≡ remove xs i) → p x ≡ false → filter (λ y. not (p y)) (x ∷ xs) ≡ x ∷ remove xs i
    go later e = rw e (ap (λ ys. x ∷ ys) (later (few_left p x xs e few)))
