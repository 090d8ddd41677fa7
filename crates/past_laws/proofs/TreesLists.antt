-- Lists that are seen through a map, and of which a part is looked at.
use Rattle.std.proofs.Common.{◌≡◌, ℕ, ◌+◌, ◌≤◌, ◌==◌, Bool, true, false, not, ◌&&◌, ◌||◌, cond, List, [], ◌∷◌, length, filter, map, take, Some, None, refl, sym, ap, ◌∙◌, arith}
use Rattle.std.proofs.lemmas.Bool.Decides.{nat_tests}
use Rattle.std.proofs.lemmas.List.{reverse-append}
use Rattle.std.proofs.lemmas.List.Folds.{list_any-append}
use Rattle.std.specs.Prelude.{suc, sum_by, fold, reverse}
use Rattle.std.specs.List.{find, list_any, list_all}
use Rattle.std.specs.Option.{option_map, is_some}
use Rattle.tree_model.specs.Lists.{change_first, without_first}
use Rattle.tree_model.specs.Working.{list_of}
use Rattle.promises.specs.After.{change}
use Rattle.past_laws.proofs.Names.{false_true, both, both_parts, none_some, some_same}
use Rattle.past_laws.proofs.Changing.{part_kept, change_none}

-- Through a map.

pub filter_map : {X Y : Type 0} (q : Y → Bool) (h : X → Y) (xs : List X) → filter q (map h xs) ≡ map h (filter (λ x. q (h x)) xs)
filter_map q h [] = refl
filter_map {X} {Y} q h (x ∷ xs) = at (q (h x)) (filter_map q h xs)
  where
    at : (b : Bool) → filter q (map h xs) ≡ map h (filter (λ x. q (h x)) xs) → cond b (h x ∷ filter q (map h xs)) (filter q (map h xs)) ≡ map h (cond b (x ∷ filter (λ x. q (h x)) xs) (filter (λ x. q (h x)) xs))
    at true e = ap (λ ys. h x ∷ ys) e
    at false e = e

pub map_map : {X Y Z : Type 0} (k : Y → Z) (h : X → Y) (xs : List X) → map k (map h xs) ≡ map (λ x. k (h x)) xs
map_map k h [] = refl
map_map k h (x ∷ xs) = ap (λ ys. k (h x) ∷ ys) (map_map k h xs)

pub find_map : {X Y : Type 0} (q : Y → Bool) (h : X → Y) (xs : List X) → find q (map h xs) ≡ option_map h (find (λ x. q (h x)) xs)
find_map q h [] = refl
find_map {X} {Y} q h (x ∷ xs) = at (q (h x)) (find_map q h xs)
  where
    at : (b : Bool) → find q (map h xs) ≡ option_map h (find (λ x. q (h x)) xs) → cond b (Some (h x)) (find q (map h xs)) ≡ option_map h (cond b (Some x) (find (λ x. q (h x)) xs))
    at true e = refl
    at false e = e

pub any_map : {X Y : Type 0} (q : Y → Bool) (h : X → Y) (xs : List X) → list_any q (map h xs) ≡ list_any (λ x. q (h x)) xs
any_map q h [] = refl
any_map q h (x ∷ xs) = ap (λ b. q (h x) || b) (any_map q h xs)

pub fold_map : {A X Y : Type 0} (step : A → Y → A) (h : X → Y) (a : A) (xs : List X) → fold step a (map h xs) ≡ fold (λ a x. step a (h x)) a xs
fold_map step h a [] = refl
fold_map step h a (x ∷ xs) = fold_map step h (step a (h x)) xs

pub sum_map : {X Y : Type 0} (f : Y → ℕ) (h : X → Y) (xs : List X) → sum_by f (map h xs) ≡ sum_by (λ x. f (h x)) xs
sum_map f h xs = fold_map (λ a y. a + f y) h 0 xs

pub length_map : {X Y : Type 0} (h : X → Y) (xs : List X) → length (map h xs) ≡ length xs
length_map h [] = refl
length_map h (x ∷ xs) = ap suc (length_map h xs)

-- Of a part.

pub filter_within : {X : Type 0} (q g : X → Bool) → ((x : X) → q x ≡ true → g x ≡ true) → (xs : List X) → filter q (filter g xs) ≡ filter q xs
filter_within q g in_it [] = refl
filter_within {X} q g in_it (x ∷ xs) = at (filter_within q g in_it xs) (q x) (g x) refl refl
  where
    at : filter q (filter g xs) ≡ filter q xs → (b d : Bool) → q x ≡ b → g x ≡ d → filter q (filter g (x ∷ xs)) ≡ filter q (x ∷ xs)
    at later b true e f = rw f (ap (λ ys. cond (q x) (x ∷ ys) ys) later)
    at later true false e f = false_true (sym f ∙ in_it x e)
    at later false false e f = rw f (rw e later)

pub find_within : {X : Type 0} (q g : X → Bool) → ((x : X) → q x ≡ true → g x ≡ true) → (xs : List X) → find q (filter g xs) ≡ find q xs
find_within q g in_it [] = refl
find_within {X} q g in_it (x ∷ xs) = at (find_within q g in_it xs) (q x) (g x) refl refl
  where
    at : find q (filter g xs) ≡ find q xs → (b d : Bool) → q x ≡ b → g x ≡ d → find q (filter g (x ∷ xs)) ≡ find q (x ∷ xs)
    at later b true e f = rw f (ap (λ o. cond (q x) (Some x) o) later)
    at later true false e f = false_true (sym f ∙ in_it x e)
    at later false false e f = rw f (rw e later)

pub any_within : {X : Type 0} (q g : X → Bool) → ((x : X) → q x ≡ true → g x ≡ true) → (xs : List X) → list_any q (filter g xs) ≡ list_any q xs
any_within q g in_it [] = refl
any_within {X} q g in_it (x ∷ xs) = at (any_within q g in_it xs) (q x) (g x) refl refl
  where
    at : list_any q (filter g xs) ≡ list_any q xs → (b d : Bool) → q x ≡ b → g x ≡ d → list_any q (filter g (x ∷ xs)) ≡ list_any q (x ∷ xs)
    at later b true e f = rw f (ap (λ o. q x || o) later)
    at later true false e f = false_true (sym f ∙ in_it x e)
    at later false false e f = rw f (rw e later)

pub filter_both : {X : Type 0} (q g : X → Bool) (xs : List X) → filter q (filter g xs) ≡ filter (λ x. q x && g x) xs
filter_both q g [] = refl
filter_both {X} q g (x ∷ xs) = at (filter_both q g xs) (q x) (g x) refl refl
  where
    at : filter q (filter g xs) ≡ filter (λ x. q x && g x) xs → (b d : Bool) → q x ≡ b → g x ≡ d → filter q (filter g (x ∷ xs)) ≡ filter (λ x. q x && g x) (x ∷ xs)
    at later true true e f = rw f (rw e (ap (λ ys. x ∷ ys) later))
    at later true false e f = rw f (rw e later)
    at later false true e f = rw f (rw e later)
    at later false false e f = rw f (rw e later)

pub filter_same : {X : Type 0} (q g : X → Bool) → ((x : X) → q x ≡ g x) → (xs : List X) → filter q xs ≡ filter g xs
filter_same q g same [] = refl
filter_same q g same (x ∷ xs) = ap (λ b. cond b (x ∷ filter q xs) (filter q xs)) (same x) ∙ ap (λ ys. cond (g x) (x ∷ ys) ys) (filter_same q g same xs)

-- a map over a part, where another map gives the same of what is in the part
pub map_within : {X Y : Type 0} (g : X → Bool) (h k : X → Y) → ((x : X) → g x ≡ true → h x ≡ k x) → (xs : List X) → map h (filter g xs) ≡ map k (filter g xs)
map_within g h k same [] = refl
map_within {X} {Y} g h k same (x ∷ xs) = at (map_within g h k same xs) (g x) refl
  where
    at : map h (filter g xs) ≡ map k (filter g xs) → (b : Bool) → g x ≡ b → map h (cond b (x ∷ filter g xs) (filter g xs)) ≡ map k (cond b (x ∷ filter g xs) (filter g xs))
    at later true e = ap (λ y. y ∷ map h (filter g xs)) (same x e) ∙ ap (λ ys. k x ∷ ys) later
    at later false e = later

pub filter_in : {X : Type 0} (g q k : X → Bool) → ((x : X) → g x ≡ true → q x ≡ k x) → (xs : List X) → filter q (filter g xs) ≡ filter k (filter g xs)
filter_in g q k same [] = refl
filter_in {X} g q k same (x ∷ xs) = at (filter_in g q k same xs) (g x) refl
  where
    at : filter q (filter g xs) ≡ filter k (filter g xs) → (b : Bool) → g x ≡ b → filter q (cond b (x ∷ filter g xs) (filter g xs)) ≡ filter k (cond b (x ∷ filter g xs) (filter g xs))
    at later true e = ap (λ b. cond b (x ∷ filter q (filter g xs)) (filter q (filter g xs))) (same x e) ∙ ap (λ ys. cond (k x) (x ∷ ys) ys) later
    at later false e = later

-- The first that passes, as a list of at most one.

pub first_only : {X : Type 0} (q : X → Bool) (xs : List X) → take 1 (filter q xs) ≡ list_of (find q xs)
first_only q [] = refl
first_only {X} q (x ∷ xs) = at (q x) (first_only q xs)
  where
    at : (b : Bool) → take 1 (filter q xs) ≡ list_of (find q xs) → take 1 (cond b (x ∷ filter q xs) (filter q xs)) ≡ list_of (cond b (Some x) (find q xs))
    at true e = refl
    at false e = e

-- Where at most one passes.

pub none_of : {X : Type 0} (q : X → Bool) (xs : List X) → length (filter q xs) ≡ 0 → list_any q xs ≡ false
none_of q [] h = refl
none_of {X} q (x ∷ xs) h = at (none_of q xs) (q x) h
  where
    at : (length (filter q xs) ≡ 0 → list_any q xs ≡ false) → (b : Bool) → length (cond b (x ∷ filter q xs) (filter q xs)) ≡ 0 → (b || list_any q xs) ≡ false
    at later true k = absurd (omega arith)
    at later false k = later k

pub of_none : {X : Type 0} (q : X → Bool) (xs : List X) → list_any q xs ≡ false → filter q xs ≡ []
of_none q [] h = refl
of_none {X} q (x ∷ xs) h = at (of_none q xs) (q x) h
  where
    at : (list_any q xs ≡ false → filter q xs ≡ []) → (b : Bool) → (b || list_any q xs) ≡ false → cond b (x ∷ filter q xs) (filter q xs) ≡ []
    at later true k = false_true (sym k)
    at later false k = later k

no_more : {X : Type 0} (q : X → Bool) (x : X) (xs : List X) → q x ≡ true → length (filter q (x ∷ xs)) ≤ 1 → list_any q xs ≡ false
no_more {X} q x xs e h = none_of q xs (rest (rw e at h))
  where
    rest : length (x ∷ filter q xs) ≤ 1 → length (filter q xs) ≡ 0
    rest k = omega arith

fewer : {X : Type 0} (q : X → Bool) (x : X) (xs : List X) → q x ≡ false → length (filter q (x ∷ xs)) ≤ 1 → length (filter q xs) ≤ 1
fewer q x xs e h = rw e at h

pub change_one : {X : Type 0} (q : X → Bool) (f : X → X) (xs : List X) → length (filter q xs) ≤ 1 → change q f xs ≡ change_first q f xs
change_one q f [] h = refl
change_one {X} q f (x ∷ xs) h = at (change_one q f xs) (q x) refl
  where
    at : (length (filter q xs) ≤ 1 → change q f xs ≡ change_first q f xs) → (b : Bool) → q x ≡ b → cond b (f x) x ∷ change q f xs ≡ cond b (f x ∷ xs) (x ∷ change_first q f xs)
    at later true e = ap (λ ys. f x ∷ ys) (change_none q f xs (no_more q x xs e h))
    at later false e = ap (λ ys. x ∷ ys) (later (fewer q x xs e h))

pub all_but : {X : Type 0} (q : X → Bool) (xs : List X) → list_any q xs ≡ false → filter (λ x. not (q x)) xs ≡ xs
all_but q [] h = refl
all_but {X} q (x ∷ xs) h = at (all_but q xs) (q x) h
  where
    at : (list_any q xs ≡ false → filter (λ x. not (q x)) xs ≡ xs) → (b : Bool) → (b || list_any q xs) ≡ false → cond (not b) (x ∷ filter (λ x. not (q x)) xs) (filter (λ x. not (q x)) xs) ≡ x ∷ xs
    at later true k = false_true (sym k)
    at later false k = ap (λ ys. x ∷ ys) (later k)

pub without_one : {X : Type 0} (q : X → Bool) (xs : List X) → length (filter q xs) ≤ 1 → filter (λ x. not (q x)) xs ≡ without_first q xs
without_one q [] h = refl
without_one {X} q (x ∷ xs) h = at (without_one q xs) (q x) refl
  where
    at : (length (filter q xs) ≤ 1 → filter (λ x. not (q x)) xs ≡ without_first q xs) → (b : Bool) → q x ≡ b → cond (not b) (x ∷ filter (λ x. not (q x)) xs) (filter (λ x. not (q x)) xs) ≡ cond b xs (x ∷ without_first q xs)
    at later true e = all_but q xs (no_more q x xs e h)
    at later false e = ap (λ ys. x ∷ ys) (later (fewer q x xs e h))

-- those that pass are the one that is found
pub filter_one : {X : Type 0} (q : X → Bool) (xs : List X) → length (filter q xs) ≤ 1 → filter q xs ≡ list_of (find q xs)
filter_one q [] h = refl
filter_one {X} q (x ∷ xs) h = at (filter_one q xs) (q x) refl
  where
    at : (length (filter q xs) ≤ 1 → filter q xs ≡ list_of (find q xs)) → (b : Bool) → q x ≡ b → cond b (x ∷ filter q xs) (filter q xs) ≡ list_of (cond b (Some x) (find q xs))
    at later true e = ap (λ ys. x ∷ ys) (of_none q xs (no_more q x xs e h))
    at later false e = later (fewer q x xs e h)

-- Lists that lose some.

pub filter_less : {X : Type 0} (q g : X → Bool) (xs : List X) → length (filter q (filter g xs)) ≤ length (filter q xs)
filter_less q g [] = omega arith
filter_less {X} q g (x ∷ xs) = at (filter_less q g xs) (g x) (q x) refl
  where
    at : length (filter q (filter g xs)) ≤ length (filter q xs) → (b d : Bool) → q x ≡ d → length (filter q (cond b (x ∷ filter g xs) (filter g xs))) ≤ length (cond d (x ∷ filter q xs) (filter q xs))
    at later true true e = rw e (omega arith)
    at later true false e = rw e later
    at later false true e = omega arith
    at later false false e = later

pub all_filter : {X : Type 0} (q g : X → Bool) (xs : List X) → list_all q xs ≡ true → list_all q (filter g xs) ≡ true
all_filter q g [] h = refl
all_filter {X} q g (x ∷ xs) h = at (all_filter q g xs) (g x)
  where
    at : (list_all q xs ≡ true → list_all q (filter g xs) ≡ true) → (b : Bool) → list_all q (cond b (x ∷ filter g xs) (filter g xs)) ≡ true
    at later true = both (q x) (list_all q (filter g xs)) (both_parts (q x) (list_all q xs) h).0 (later (both_parts (q x) (list_all q xs) h).1)
    at later false = later (both_parts (q x) (list_all q xs) h).1

pub all_more : {X : Type 0} (q g : X → Bool) → ((x : X) → q x ≡ true → g x ≡ true) → (xs : List X) → list_all q xs ≡ true → list_all g xs ≡ true
all_more q g more [] h = refl
all_more q g more (x ∷ xs) h = both (g x) (list_all g xs) (more x (both_parts (q x) (list_all q xs) h).0) (all_more q g more xs (both_parts (q x) (list_all q xs) h).1)

pub all_change : {X : Type 0} (q p : X → Bool) (f : X → X) → ((x : X) → q (f x) ≡ q x) → (xs : List X) → list_all q (change p f xs) ≡ list_all q xs
all_change q p f same [] = refl
all_change q p f same (x ∷ xs) = ap (λ b. b && list_all q (change p f xs)) (part_kept q p f (λ y h. same y) x) ∙ ap (λ b. q x && b) (all_change q p f same xs)

pub all_found : {X : Type 0} (q g : X → Bool) (xs : List X) (x : X) → list_all q xs ≡ true → find g xs ≡ Some x → q x ≡ true
all_found q g [] x h e = none_some x e
all_found {X} q g (y ∷ xs) x h e = at (all_found q g xs x (both_parts (q y) (list_all q xs) h).1) (g y) e
  where
    at : (find g xs ≡ Some x → q x ≡ true) → (b : Bool) → cond b (Some y) (find g xs) ≡ Some x → q x ≡ true
    at later true k = ap q (sym (some_same y x k)) ∙ (both_parts (q y) (list_all q xs) h).0
    at later false k = later k

pub found_passes : {X : Type 0} (g : X → Bool) (xs : List X) (x : X) → find g xs ≡ Some x → g x ≡ true
found_passes g [] x e = none_some x e
found_passes {X} g (y ∷ xs) x e = at (found_passes g xs x) (g y) refl
  where
    at : (find g xs ≡ Some x → g x ≡ true) → (b : Bool) → g y ≡ b → g x ≡ true
    at later true k = ap g (sym (some_same y x (rw k at e))) ∙ k
    at later false k = later (rw k at e)

pub found_any : {X : Type 0} (g : X → Bool) (xs : List X) (x : X) → find g xs ≡ Some x → list_any g xs ≡ true
found_any g [] x e = none_some x e
found_any {X} g (y ∷ xs) x e = at (found_any g xs x) (g y) e
  where
    at : (find g xs ≡ Some x → list_any g xs ≡ true) → (b : Bool) → cond b (Some y) (find g xs) ≡ Some x → (b || list_any g xs) ≡ true
    at later true k = refl
    at later false k = later k

pub any_found : {X : Type 0} (g : X → Bool) (xs : List X) → list_any g xs ≡ is_some (find g xs)
any_found g [] = refl
any_found {X} g (x ∷ xs) = at (any_found g xs) (g x)
  where
    at : list_any g xs ≡ is_some (find g xs) → (b : Bool) → (b || list_any g xs) ≡ is_some (cond b (Some x) (find g xs))
    at later true = refl
    at later false = later

pub find_both : {X : Type 0} (q g : X → Bool) (xs : List X) → find q (filter g xs) ≡ find (λ x. q x && g x) xs
find_both q g [] = refl
find_both {X} q g (x ∷ xs) = at (find_both q g xs) (q x) (g x) refl refl
  where
    at : find q (filter g xs) ≡ find (λ x. q x && g x) xs → (b d : Bool) → q x ≡ b → g x ≡ d → find q (filter g (x ∷ xs)) ≡ find (λ x. q x && g x) (x ∷ xs)
    at later true true e f = rw f (rw e refl)
    at later true false e f = rw f (rw e later)
    at later false true e f = rw f (rw e later)
    at later false false e f = rw f (rw e later)

pub find_same : {X : Type 0} (q g : X → Bool) → ((x : X) → q x ≡ g x) → (xs : List X) → find q xs ≡ find g xs
find_same q g same [] = refl
find_same q g same (x ∷ xs) = ap (λ b. cond b (Some x) (find q xs)) (same x) ∙ ap (λ o. cond (g x) (Some x) o) (find_same q g same xs)

pub any_same : {X : Type 0} (q g : X → Bool) → ((x : X) → q x ≡ g x) → (xs : List X) → list_any q xs ≡ list_any g xs
any_same q g same [] = refl
any_same q g same (x ∷ xs) = ap (λ b. b || list_any q xs) (same x) ∙ ap (λ o. g x || o) (any_same q g same xs)

pub fewer_pass : {X : Type 0} (q g : X → Bool) → ((x : X) → q x ≡ true → g x ≡ true) → (xs : List X) → length (filter q xs) ≤ length (filter g xs)
fewer_pass q g more [] = omega arith
fewer_pass {X} q g more (x ∷ xs) = at (fewer_pass q g more xs) (q x) (g x) refl refl
  where
    at : length (filter q xs) ≤ length (filter g xs) → (b d : Bool) → q x ≡ b → g x ≡ d → length (cond b (x ∷ filter q xs) (filter q xs)) ≤ length (cond d (x ∷ filter g xs) (filter g xs))
    at later true true e f = omega arith
    at later true false e f = false_true (sym f ∙ more x e)
    at later false true e f = omega arith
    at later false false e f = later

pub number_test : (a b : ℕ) → a ≡ b → (a == b) ≡ true
number_test a b e = grind (arith, nat_tests)

pub any_both : {X : Type 0} (q g : X → Bool) (xs : List X) → list_any q (filter g xs) ≡ list_any (λ x. q x && g x) xs
any_both q g [] = refl
any_both {X} q g (x ∷ xs) = at (any_both q g xs) (q x) (g x) refl refl
  where
    at : list_any q (filter g xs) ≡ list_any (λ x. q x && g x) xs → (b d : Bool) → q x ≡ b → g x ≡ d → list_any q (filter g (x ∷ xs)) ≡ list_any (λ x. q x && g x) (x ∷ xs)
    at later true true e f = rw f (rw e refl)
    at later true false e f = rw f (rw e later)
    at later false true e f = rw f (rw e later)
    at later false false e f = rw f (rw e later)

pub missed : {X : Type 0} (q : X → Bool) (xs : List X) → list_any q xs ≡ false → find q xs ≡ None
missed q [] h = refl
missed {X} q (x ∷ xs) h = at (missed q xs) (q x) h
  where
    at : (list_any q xs ≡ false → find q xs ≡ None) → (b : Bool) → (b || list_any q xs) ≡ false → cond b (Some x) (find q xs) ≡ None
    at later true k = false_true (sym k)
    at later false k = later k

-- what is found passes another test
pub found_then : {X : Type 0} (g q : X → Bool) (xs : List X) (x : X) → find g xs ≡ Some x → q x ≡ true → list_any q xs ≡ true
found_then g q [] x e h = none_some x e
found_then {X} g q (y ∷ ys) x e h = at (found_then g q ys x) (g y) e
  where
    or_more : (b : Bool) → list_any q ys ≡ true → (b || list_any q ys) ≡ true
    or_more true k = refl
    or_more false k = k

    at : (find g ys ≡ Some x → q x ≡ true → list_any q ys ≡ true) → (b : Bool) → cond b (Some y) (find g ys) ≡ Some x → (q y || list_any q ys) ≡ true
    at later true k = ap (λ b. b || list_any q ys) (ap q (some_same y x k) ∙ h)
    at later false k = or_more (q y) (later k h)

pub any_reverse : {X : Type 0} (q : X → Bool) (xs : List X) → list_any q (reverse xs) ≡ list_any q xs
any_reverse q [] = refl
any_reverse q (x ∷ xs) = ap (list_any q) (reverse-append (x ∷ []) xs) ∙ (list_any-append q (reverse xs) (x ∷ []) ∙ (ap (λ b. b || (q x || false)) (any_reverse q xs) ∙ turn (list_any q xs) (q x)))
  where
    turn : (a b : Bool) → (a || (b || false)) ≡ (b || a)
    turn true true = refl
    turn true false = refl
    turn false true = refl
    turn false false = refl

-- where at most one passes, whether one passes and is so
pub any_one : {X : Type 0} (q r : X → Bool) (xs : List X) (x : X) → length (filter q xs) ≤ 1 → find q xs ≡ Some x → list_any (λ y. q y && r y) xs ≡ r x
any_one {X} q r xs x one h = through (filter_one q xs one ∙ ap list_of h)
  where
    or_false : (b : Bool) → (b || false) ≡ b
    or_false true = refl
    or_false false = refl

    flip : (b d : Bool) → (b && d) ≡ (d && b)
    flip true true = refl
    flip true false = refl
    flip false true = refl
    flip false false = refl

    through : filter q xs ≡ x ∷ [] → list_any (λ y. q y && r y) xs ≡ r x
    through e = any_same (λ y. q y && r y) (λ y. r y && q y) (λ y. flip (q y) (r y)) xs ∙ (sym (any_both r q xs) ∙ (ap (list_any r) e ∙ or_false (r x)))

-- those that pass in a list of which all are so
pub filter_all : {X : Type 0} (all a b : X → Bool) → ((x : X) → all x ≡ true → a x ≡ b x) → (xs : List X) → list_all all xs ≡ true → filter a xs ≡ filter b xs
filter_all all a b same [] h = refl
filter_all all a b same (x ∷ xs) h = ap (λ t. cond t (x ∷ filter a xs) (filter a xs)) (same x (both_parts (all x) (list_all all xs) h).0) ∙ ap (λ ys. cond (b x) (x ∷ ys) ys) (filter_all all a b same xs (both_parts (all x) (list_all all xs) h).1)

-- where one passes at most, what is found by two tests is found by the first
pub found_wider : {X : Type 0} (q g : X → Bool) (xs : List X) (x : X) → length (filter q xs) ≤ 1 → find (λ y. q y && g y) xs ≡ Some x → find q xs ≡ Some x
found_wider q g [] x one e = none_some x e
found_wider {X} q g (y ∷ ys) x one e = at (found_wider q g ys x) (q y) (g y) refl refl
  where
    gone : q y ≡ true → find (λ z. q z && g z) ys ≡ Some x → false ≡ true
    gone h k = sym (no_more q y ys h one) ∙ found_then (λ z. q z && g z) q ys x k (both_parts (q x) (g x) (found_passes (λ z. q z && g z) ys x k)).0

    at : (length (filter q ys) ≤ 1 → find (λ z. q z && g z) ys ≡ Some x → find q ys ≡ Some x) → (a b : Bool) → q y ≡ a → g y ≡ b → find q (y ∷ ys) ≡ Some x
    at later true true h k = rw h (rw h at (rw k at e))
    at later true false h k = false_true (gone h (rw h at (rw k at e)))
    at later false b h k = rw h (later (fewer q y ys h one) (rw h at e))
