-- Lists that are shown the newest first and kept the oldest first.
use Rattle.std.proofs.Common.{◌≡◌, ℕ, ◌-◌, ◌≤◌, ◌<◌, Bool, true, false, ◌||◌, cond, List, [], ◌∷◌, ◌++◌, length, filter, map, set, get_or, reverse, Some, None, refl, sym, ap, ◌∙◌, arith}
use Rattle.std.specs.List.{find, list_any}
use Rattle.std.proofs.lemmas.List.{reverse-append, length-reverse, get_or-reverse, map-append}
use Rattle.row_lists.proofs.ByPlace.{filter_at, find_first_at, change_at, kept_finds, none_changed, none_found}

-- Both ends.

pub filter_append : {X : Type 0} (p : X → Bool) (xs ys : List X) → filter p (xs ++ ys) ≡ filter p xs ++ filter p ys
filter_append p [] ys = refl
filter_append {X} p (x ∷ xs) ys = at (p x) (filter_append p xs ys)
  where
    at : (b : Bool) → filter p (xs ++ ys) ≡ filter p xs ++ filter p ys → cond b (x ∷ filter p (xs ++ ys)) (filter p (xs ++ ys)) ≡ cond b (x ∷ filter p xs) (filter p xs) ++ filter p ys
    at true later = ap (λ zs. x ∷ zs) later
    at false later = later

pub any_append : {X : Type 0} (p : X → Bool) (xs ys : List X) → list_any p (xs ++ ys) ≡ (list_any p xs || list_any p ys)
any_append p [] ys = refl
any_append p (x ∷ xs) ys = ap (λ b. p x || b) (any_append p xs ys) ∙ or_assoc (p x) (list_any p xs) (list_any p ys)
  where
    or_assoc : (a b c : Bool) → (a || (b || c)) ≡ ((a || b) || c)
    or_assoc true b c = refl
    or_assoc false b c = refl

pub reverse_cons : {X : Type 0} (x : X) (xs : List X) → reverse (x ∷ xs) ≡ reverse xs ++ x ∷ []
reverse_cons x xs = reverse-append (x ∷ []) xs

-- one more row, kept last and shown first
pub reverse_push : {X : Type 0} (xs : List X) (x : X) → reverse (xs ++ x ∷ []) ≡ x ∷ reverse xs
reverse_push xs x = reverse-append xs (x ∷ [])

pub reverse_map : {X Y : Type 0} (f : X → Y) (xs : List X) → map f (reverse xs) ≡ reverse (map f xs)
reverse_map f [] = refl
reverse_map f (x ∷ xs) = ap (map f) (reverse_cons x xs) ∙ (map-append f (reverse xs) (x ∷ []) ∙ (ap (λ ys. ys ++ f x ∷ []) (reverse_map f xs) ∙ sym (reverse_cons (f x) (map f xs))))

pub reverse_filter : {X : Type 0} (p : X → Bool) (xs : List X) → filter p (reverse xs) ≡ reverse (filter p xs)
reverse_filter p [] = refl
reverse_filter {X} p (x ∷ xs) = ap (filter p) (reverse_cons x xs) ∙ (filter_append p (reverse xs) (x ∷ []) ∙ (ap (λ ys. ys ++ filter p (x ∷ [])) (reverse_filter p xs) ∙ at (p x)))
  where
    nil : (ys : List X) → ys ++ [] ≡ ys
    nil [] = refl
    nil (y ∷ ys) = ap (λ zs. y ∷ zs) (nil ys)

    at : (b : Bool) → reverse (filter p xs) ++ cond b (x ∷ []) [] ≡ reverse (cond b (x ∷ filter p xs) (filter p xs))
    at true = sym (reverse_cons x (filter p xs))
    at false = nil (reverse (filter p xs))

pub reverse_any : {X : Type 0} (p : X → Bool) (xs : List X) → list_any p (reverse xs) ≡ list_any p xs
reverse_any p [] = refl
reverse_any p (x ∷ xs) = ap (list_any p) (reverse_cons x xs) ∙ (any_append p (reverse xs) (x ∷ []) ∙ (ap (λ b. b || (p x || false)) (reverse_any p xs) ∙ turn (list_any p xs) (p x)))
  where
    turn : (a b : Bool) → (a || (b || false)) ≡ (b || a)
    turn true true = refl
    turn true false = refl
    turn false true = refl
    turn false false = refl

-- as many pass
pub reverse_many : {X : Type 0} (p : X → Bool) (xs : List X) → length (filter p (reverse xs)) ≡ length (filter p xs)
reverse_many p xs = ap length (reverse_filter p xs) ∙ length-reverse (filter p xs)

-- By place.

-- what the last of the kept rows that passes is, the shown list gives first
pub reverse_find : {X : Type 0} (p : X → Bool) (xs : List X) (d : X) (i : ℕ) → i < length xs → p (get_or xs i d) ≡ true → ((j : ℕ) → i < j → j < length xs → p (get_or xs j d) ≡ false) → find p (reverse xs) ≡ Some (get_or xs i d)
reverse_find {X} p xs d i l h after = find_first_at p (reverse xs) d k in_it (ap p same ∙ h) before ∙ ap Some same
  where
    k : ℕ
    k = length xs - 1 - i

    in_it : k < length (reverse xs)
    in_it = omega (arith, length-reverse xs, l)

    same : get_or (reverse xs) k d ≡ get_or xs i d
    same = get_or-reverse xs k d (omega (arith, l)) ∙ ap (λ n. get_or xs n d) (back (length xs) i l)
      where
        back : (n m : ℕ) → m < n → n - 1 - (n - 1 - m) ≡ m
        back n m lt = omega arith

    before : (j : ℕ) → j < k → p (get_or (reverse xs) j d) ≡ false
    before j m = ap p (get_or-reverse xs j d (omega (arith, l, m))) ∙ after (length xs - 1 - j) (omega (arith, l, m)) (omega (arith, l, m))

-- where at most one passes, both ways give the same
pub reverse_find_once : {X : Type 0} (p : X → Bool) (xs : List X) (d : X) (i : ℕ) → i < length xs → p (get_or xs i d) ≡ true → length (filter p xs) ≤ 1 → find p (reverse xs) ≡ Some (get_or xs i d)
reverse_find_once p xs d i l h few = kept_finds p (reverse xs) (get_or xs i d) (reverse_filter p xs ∙ ap reverse (filter_at p xs d i l h few))

-- a changed row, where at most one passes
pub reverse_change : {X : Type 0} (p : X → Bool) (f : X → X) (xs : List X) (d : X) (i : ℕ) → i < length xs → p (get_or xs i d) ≡ true → length (filter p xs) ≤ 1 → map (λ x. cond (p x) (f x) x) (reverse xs) ≡ reverse (set xs i (f (get_or xs i d)))
reverse_change p f xs d i l h few = reverse_map (λ x. cond (p x) (f x) x) xs ∙ ap reverse (change_at p f xs d i l h few)

-- none passes
pub reverse_unchanged : {X : Type 0} (p : X → Bool) (f : X → X) (xs : List X) → list_any p xs ≡ false → map (λ x. cond (p x) (f x) x) (reverse xs) ≡ reverse xs
reverse_unchanged p f xs h = none_changed p f (reverse xs) (reverse_any p xs ∙ h)

pub reverse_none : {X : Type 0} (p : X → Bool) (xs : List X) → list_any p xs ≡ false → find p (reverse xs) ≡ None
reverse_none p xs h = none_found p (reverse xs) (reverse_any p xs ∙ h)
