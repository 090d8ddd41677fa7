-- What is found in a list, and what passes there, when each that passes a test is changed; and lists in which only one passes.
use Rattle.std.proofs.Common.{◌≡◌, suc, ◌≤◌, Bool, true, false, not, ◌&&◌, ◌||◌, cond, List, [], ◌∷◌, length, filter, map, Some, None, refl, sym, ap, subst, ◌∙◌, arith}
use Rattle.std.specs.List.{find, list_any}
use Rattle.std.specs.Option.{option_map}
use Rattle.tree_model.specs.Lists.{change_first, without_first}
use Rattle.promises.specs.Past.{first_or}
use Rattle.promises.specs.After.{change}
use Rattle.past_laws.proofs.Names.{false_true, none_some, some_same}

-- what becomes of one of the list
abbrev pub changed : {X : Type 0} → (X → Bool) → (X → X) → X → X
changed p f x = cond (p x) (f x) x

-- a part that the change keeps
pub part_kept : {X Y : Type 0} (g : X → Y) (p : X → Bool) (f : X → X) → ((x : X) → p x ≡ true → g (f x) ≡ g x) → (x : X) → g (changed p f x) ≡ g x
part_kept {Y = Y} g p f keep x = at (p x) refl
  where
    at : (b : Bool) → p x ≡ b → g (cond b (f x) x) ≡ g x
    at true e = keep x e
    at false e = refl

pub changed_so : {X : Type 0} (p : X → Bool) (f : X → X) (x : X) → p x ≡ true → changed p f x ≡ f x
changed_so p f x e = rw e refl

pub changed_not : {X : Type 0} (p : X → Bool) (f : X → X) (x : X) → p x ≡ false → changed p f x ≡ x
changed_not p f x e = rw e refl

-- Lists with what passes changed.

pub map_changed : {X Y : Type 0} (g : X → Y) (p : X → Bool) (f : X → X) → ((x : X) → p x ≡ true → g (f x) ≡ g x) → (xs : List X) → map g (change p f xs) ≡ map g xs
map_changed g p f keep [] = refl
map_changed g p f keep (x ∷ xs) = ap (λ y. y ∷ map g (change p f xs)) (part_kept g p f keep x) ∙ ap (λ ys. g x ∷ ys) (map_changed g p f keep xs)

pub find_changed : {X : Type 0} (q p : X → Bool) (f : X → X) → ((x : X) → p x ≡ true → q (f x) ≡ q x) → (xs : List X) → find q (change p f xs) ≡ option_map (changed p f) (find q xs)
find_changed q p f keep [] = refl
find_changed {X} q p f keep (x ∷ xs) = ap (λ b. cond b (Some (changed p f x)) (find q (change p f xs))) (part_kept q p f keep x) ∙ at (find_changed q p f keep xs) (q x)
  where
    at : find q (change p f xs) ≡ option_map (changed p f) (find q xs) → (b : Bool) → cond b (Some (changed p f x)) (find q (change p f xs)) ≡ option_map (changed p f) (cond b (Some x) (find q xs))
    at later true = refl
    at later false = later

pub filter_changed : {X : Type 0} (q p : X → Bool) (f : X → X) → ((x : X) → p x ≡ true → q (f x) ≡ q x) → (xs : List X) → filter q (change p f xs) ≡ change p f (filter q xs)
filter_changed q p f keep [] = refl
filter_changed {X} q p f keep (x ∷ xs) = ap (λ b. cond b (changed p f x ∷ filter q (change p f xs)) (filter q (change p f xs))) (part_kept q p f keep x) ∙ at (filter_changed q p f keep xs) (q x)
  where
    at : filter q (change p f xs) ≡ change p f (filter q xs) → (b : Bool) → cond b (changed p f x ∷ filter q (change p f xs)) (filter q (change p f xs)) ≡ change p f (cond b (x ∷ filter q xs) (filter q xs))
    at later true = ap (λ ys. changed p f x ∷ ys) later
    at later false = later

pub any_changed : {X : Type 0} (q p : X → Bool) (f : X → X) → ((x : X) → p x ≡ true → q (f x) ≡ q x) → (xs : List X) → list_any q (change p f xs) ≡ list_any q xs
any_changed q p f keep [] = refl
any_changed q p f keep (x ∷ xs) = ap (λ b. b || list_any q (change p f xs)) (part_kept q p f keep x) ∙ ap (λ b. q x || b) (any_changed q p f keep xs)

pub length_changed : {X : Type 0} (p : X → Bool) (f : X → X) (xs : List X) → length (change p f xs) ≡ length xs
length_changed p f [] = refl
length_changed p f (x ∷ xs) = ap suc (length_changed p f xs)

-- nothing passes, and nothing is changed
pub change_none : {X : Type 0} (p : X → Bool) (f : X → X) (xs : List X) → list_any p xs ≡ false → change p f xs ≡ xs
change_none p f [] h = refl
change_none {X} p f (x ∷ xs) h = at (change_none p f xs) (p x) refl
  where
    at : (list_any p xs ≡ false → change p f xs ≡ xs) → (b : Bool) → p x ≡ b → changed p f x ∷ change p f xs ≡ x ∷ xs
    at later true e = false_true (sym (rw e at h))
    at later false e = rw e (ap (λ ys. x ∷ ys) (later (rw e at h)))

-- a change of none that passes q isn't seen by it
pub filter_unchanged : {X : Type 0} (q p : X → Bool) (f : X → X) → ((x : X) → p x ≡ true → q x ≡ false) → ((x : X) → p x ≡ true → q (f x) ≡ false) → (xs : List X) → filter q (change p f xs) ≡ filter q xs
filter_unchanged q p f apart still [] = refl
filter_unchanged {X} q p f apart still (x ∷ xs) = at (filter_unchanged q p f apart still xs) (p x) refl
  where
    at : filter q (change p f xs) ≡ filter q xs → (b : Bool) → p x ≡ b → filter q (cond b (f x) x ∷ change p f xs) ≡ filter q (x ∷ xs)
    at later true e = rw (still x e, apart x e) later
    at later false e = ap (λ ys. cond (q x) (x ∷ ys) ys) later

-- The first that passes, or another.

pub first_found : {X : Type 0} (d : X) (q : X → Bool) (xs : List X) (x : X) → find q xs ≡ Some x → first_or d q xs ≡ x
first_found d q [] x e = none_some x e
first_found d q (y ∷ xs) x e = at (first_found d q xs x) (q y) refl
  where
    at : (find q xs ≡ Some x → first_or d q xs ≡ x) → (b : Bool) → q y ≡ b → first_or d q (y ∷ xs) ≡ x
    at later true f = rw f (some_same y x (rw f at e))
    at later false f = rw f (later (rw f at e))

pub first_none : {X : Type 0} (d : X) (q : X → Bool) (xs : List X) → find q xs ≡ None → first_or d q xs ≡ d
first_none d q [] e = refl
first_none {X} d q (y ∷ xs) e = at (first_none d q xs) (q y) refl
  where
    at : (find q xs ≡ None → first_or d q xs ≡ d) → (b : Bool) → q y ≡ b → first_or d q (y ∷ xs) ≡ d
    at later true f = none_some y (sym (rw f at e))
    at later false f = rw f (later (rw f at e))

-- the other isn't changed either
pub first_changed : {X : Type 0} (d : X) (q p : X → Bool) (f : X → X) → ((x : X) → p x ≡ true → q (f x) ≡ q x) → p d ≡ false → (xs : List X) → first_or d q (change p f xs) ≡ changed p f (first_or d q xs)
first_changed d q p f keep other [] = sym (changed_not p f d other)
first_changed {X} d q p f keep other (x ∷ xs) = ap (λ b. cond b (changed p f x) (first_or d q (change p f xs))) (part_kept q p f keep x) ∙ at (first_changed d q p f keep other xs) (q x)
  where
    at : first_or d q (change p f xs) ≡ changed p f (first_or d q xs) → (b : Bool) → cond b (changed p f x) (first_or d q (change p f xs)) ≡ changed p f (cond b x (first_or d q xs))
    at later true = refl
    at later false = later

-- one passes
pub first_changed_there : {X : Type 0} (d : X) (q p : X → Bool) (f : X → X) → ((x : X) → p x ≡ true → q (f x) ≡ q x) → (xs : List X) → list_any q xs ≡ true → first_or d q (change p f xs) ≡ changed p f (first_or d q xs)
first_changed_there d q p f keep [] h = false_true h
first_changed_there {X} d q p f keep (x ∷ xs) h = ap (λ b. cond b (changed p f x) (first_or d q (change p f xs))) (part_kept q p f keep x) ∙ at (first_changed_there d q p f keep xs) (q x) refl
  where
    at : (list_any q xs ≡ true → first_or d q (change p f xs) ≡ changed p f (first_or d q xs)) → (b : Bool) → q x ≡ b → cond b (changed p f x) (first_or d q (change p f xs)) ≡ changed p f (cond b x (first_or d q xs))
    at later true e = refl
    at later false e = later (rw e at h)

-- none that q finds is changed
pub first_unchanged : {X : Type 0} (d : X) (q p : X → Bool) (f : X → X) → ((x : X) → p x ≡ true → q (f x) ≡ q x) → ((x : X) → p x ≡ true → q x ≡ false) → (xs : List X) → first_or d q (change p f xs) ≡ first_or d q xs
first_unchanged d q p f keep apart [] = refl
first_unchanged {X} d q p f keep apart (x ∷ xs) = ap (λ b. cond b (changed p f x) (first_or d q (change p f xs))) (part_kept q p f keep x) ∙ at (first_unchanged d q p f keep apart xs) (p x) (q x) refl refl
  where
    at : first_or d q (change p f xs) ≡ first_or d q xs → (a b : Bool) → p x ≡ a → q x ≡ b → cond b (cond a (f x) x) (first_or d q (change p f xs)) ≡ cond b x (first_or d q xs)
    at later true true h e = false_true (sym (apart x h) ∙ e)
    at later false true h e = refl
    at later a false h e = later

-- a part that the change keeps is that of the same one
pub first_part : {X Y : Type 0} (g : X → Y) (d : X) (q p : X → Bool) (f : X → X) → ((x : X) → p x ≡ true → q (f x) ≡ q x) → ((x : X) → p x ≡ true → g (f x) ≡ g x) → (xs : List X) → g (first_or d q (change p f xs)) ≡ g (first_or d q xs)
first_part g d q p f keep same [] = refl
first_part {Y = Y} g d q p f keep same (x ∷ xs) = ap (λ b. g (cond b (changed p f x) (first_or d q (change p f xs)))) (part_kept q p f keep x) ∙ at (first_part g d q p f keep same xs) (q x)
  where
    at : g (first_or d q (change p f xs)) ≡ g (first_or d q xs) → (b : Bool) → g (cond b (changed p f x) (first_or d q (change p f xs))) ≡ g (cond b x (first_or d q xs))
    at later true = part_kept g p f same x
    at later false = later

-- What is found.

pub found_passes : {X : Type 0} (q : X → Bool) (xs : List X) (x : X) → find q xs ≡ Some x → q x ≡ true
found_passes q [] x e = none_some x e
found_passes q (y ∷ xs) x e = at (found_passes q xs x) (q y) refl
  where
    at : (find q xs ≡ Some x → q x ≡ true) → (b : Bool) → q y ≡ b → q x ≡ true
    at later true f = subst (λ z. q z ≡ true) (some_same y x (rw f at e)) f
    at later false f = later (rw f at e)

-- one is found where one passes, or none does
pub record Finds {X : Type 0} (q : X → Bool) (xs : List X) : Type 0 where
  pub one : X
  pub found : find q xs ≡ Some one
  pub passes : q one ≡ true

pub any_finds : {X : Type 0} (q : X → Bool) (xs : List X) → list_any q xs ≡ true → Finds q xs
any_finds q [] h = false_true h
any_finds {X} q (x ∷ xs) h = at (any_finds q xs) (q x) refl
  where
    more : q x ≡ false → Finds q xs → Finds q (x ∷ xs)
    more e it = record { one = it.one; found = rw e it.found; passes = it.passes }

    at : (list_any q xs ≡ true → Finds q xs) → (b : Bool) → q x ≡ b → Finds q (x ∷ xs)
    at later true e = record { one = x; found = rw e refl; passes = e }
    at later false e = more e (later (rw e at h))

pub none_finds : {X : Type 0} (q : X → Bool) (xs : List X) → list_any q xs ≡ false → find q xs ≡ None
none_finds q [] h = refl
none_finds {X} q (x ∷ xs) h = at (none_finds q xs) (q x) refl
  where
    at : (list_any q xs ≡ false → find q xs ≡ None) → (b : Bool) → q x ≡ b → find q (x ∷ xs) ≡ None
    at later true e = false_true (sym (rw e at h))
    at later false e = rw e (later (rw e at h))

-- another test that it passes too
pub found_any : {X : Type 0} (q r : X → Bool) (xs : List X) (x : X) → find q xs ≡ Some x → r x ≡ true → list_any r xs ≡ true
found_any q r [] x e h = none_some x e
found_any q r (y ∷ xs) x e h = at (found_any q r xs x) (q y) refl
  where
    later_too : (a b : Bool) → b ≡ true → (a || b) ≡ true
    later_too true b g = refl
    later_too false b g = g

    at : (find q xs ≡ Some x → r x ≡ true → list_any r xs ≡ true) → (b : Bool) → q y ≡ b → list_any r (y ∷ xs) ≡ true
    at later true f = rw (subst (λ z. r z ≡ true) (sym (some_same y x (rw f at e))) h) refl
    at later false f = later_too (r y) (list_any r xs) (later (rw f at e) h)

pub lost_any : {X : Type 0} (q : X → Bool) (xs : List X) → find q xs ≡ None → list_any q xs ≡ false
lost_any q [] e = refl
lost_any {X} q (y ∷ xs) e = at (lost_any q xs) (q y) refl
  where
    at : (find q xs ≡ None → list_any q xs ≡ false) → (b : Bool) → q y ≡ b → list_any q (y ∷ xs) ≡ false
    at later true f = none_some y (sym (rw f at e))
    at later false f = rw f (later (rw f at e))

-- Two tests that say the same.

pub find_same : {X : Type 0} (q r : X → Bool) → ((x : X) → q x ≡ r x) → (xs : List X) → find q xs ≡ find r xs
find_same q r same xs = ap (λ t. find t xs) (λ i x. same x i)

pub any_same : {X : Type 0} (q r : X → Bool) → ((x : X) → q x ≡ r x) → (xs : List X) → list_any q xs ≡ list_any r xs
any_same q r same xs = ap (λ t. list_any t xs) (λ i x. same x i)

pub filter_same : {X : Type 0} (q r : X → Bool) → ((x : X) → q x ≡ r x) → (xs : List X) → filter q xs ≡ filter r xs
filter_same q r same xs = ap (λ t. filter t xs) (λ i x. same x i)

-- Filtered lists.

-- a filter that keeps all that pass
pub find_filtered : {X : Type 0} (q p : X → Bool) → ((x : X) → q x ≡ true → p x ≡ true) → (xs : List X) → find q (filter p xs) ≡ find q xs
find_filtered q p keep [] = refl
find_filtered {X} q p keep (x ∷ xs) = at (find_filtered q p keep xs) (p x) (q x) refl refl
  where
    at : find q (filter p xs) ≡ find q xs → (a b : Bool) → p x ≡ a → q x ≡ b → find q (cond a (x ∷ filter p xs) (filter p xs)) ≡ cond b (Some x) (find q xs)
    at later true b h e = rw e (ap (λ o. cond b (Some x) o) later)
    at later false true h e = false_true (sym h ∙ keep x e)
    at later false false h e = later

-- and one that keeps none of them
pub find_filtered_out : {X : Type 0} (q p : X → Bool) → ((x : X) → q x ≡ true → p x ≡ false) → (xs : List X) → find q (filter p xs) ≡ None
find_filtered_out q p out [] = refl
find_filtered_out {X} q p out (x ∷ xs) = at (find_filtered_out q p out xs) (p x) (q x) refl refl
  where
    at : find q (filter p xs) ≡ None → (a b : Bool) → p x ≡ a → q x ≡ b → find q (cond a (x ∷ filter p xs) (filter p xs)) ≡ None
    at later true true h e = false_true (sym (out x e) ∙ h)
    at later true false h e = rw e later
    at later false b h e = later

pub filter_filtered : {X : Type 0} (q p : X → Bool) → ((x : X) → q x ≡ true → p x ≡ true) → (xs : List X) → filter q (filter p xs) ≡ filter q xs
filter_filtered q p keep [] = refl
filter_filtered {X} q p keep (x ∷ xs) = at (filter_filtered q p keep xs) (p x) (q x) refl refl
  where
    at : filter q (filter p xs) ≡ filter q xs → (a b : Bool) → p x ≡ a → q x ≡ b → filter q (cond a (x ∷ filter p xs) (filter p xs)) ≡ cond b (x ∷ filter q xs) (filter q xs)
    at later true b h e = rw e (ap (λ ys. cond b (x ∷ ys) ys) later)
    at later false true h e = false_true (sym h ∙ keep x e)
    at later false false h e = later

pub filter_filtered_out : {X : Type 0} (q p : X → Bool) → ((x : X) → q x ≡ true → p x ≡ false) → (xs : List X) → filter q (filter p xs) ≡ []
filter_filtered_out q p out [] = refl
filter_filtered_out {X} q p out (x ∷ xs) = at (filter_filtered_out q p out xs) (p x) (q x) refl refl
  where
    at : filter q (filter p xs) ≡ [] → (a b : Bool) → p x ≡ a → q x ≡ b → filter q (cond a (x ∷ filter p xs) (filter p xs)) ≡ []
    at later true true h e = false_true (sym (out x e) ∙ h)
    at later true false h e = rw e later
    at later false b h e = later

pub filter_turned : {X : Type 0} (q p : X → Bool) (xs : List X) → filter q (filter p xs) ≡ filter p (filter q xs)
filter_turned q p [] = refl
filter_turned {X} q p (x ∷ xs) = at (filter_turned q p xs) (p x) (q x) refl refl
  where
    at : filter q (filter p xs) ≡ filter p (filter q xs) → (a b : Bool) → p x ≡ a → q x ≡ b → filter q (cond a (x ∷ filter p xs) (filter p xs)) ≡ filter p (cond b (x ∷ filter q xs) (filter q xs))
    at later true true h e = rw (h, e) (ap (λ ys. x ∷ ys) later)
    at later true false h e = rw e later
    at later false true h e = rw h later
    at later false false h e = later

pub any_filtered : {X : Type 0} (q p : X → Bool) (xs : List X) → list_any q (filter p xs) ≡ list_any (λ x. p x && q x) xs
any_filtered q p [] = refl
any_filtered {X} q p (x ∷ xs) = at (any_filtered q p xs) (p x)
  where
    at : list_any q (filter p xs) ≡ list_any (λ y. p y && q y) xs → (a : Bool) → list_any q (cond a (x ∷ filter p xs) (filter p xs)) ≡ ((a && q x) || list_any (λ y. p y && q y) xs)
    at later true = ap (λ b. q x || b) later
    at later false = later

-- Lists in which at most one passes.

pub find_filter : {X : Type 0} (q : X → Bool) (xs : List X) → find q xs ≡ None → filter q xs ≡ []
find_filter q [] e = refl
find_filter {X} q (x ∷ xs) e = at (find_filter q xs) (q x) refl
  where
    at : (find q xs ≡ None → filter q xs ≡ []) → (b : Bool) → q x ≡ b → filter q (x ∷ xs) ≡ []
    at later true f = none_some x (sym (rw f at e))
    at later false f = rw f (later (rw f at e))

-- the one that is found is the only one
pub only_one : {X : Type 0} (q : X → Bool) (xs : List X) (x : X) → length (filter q xs) ≤ 1 → find q xs ≡ Some x → filter q xs ≡ x ∷ []
only_one q [] x h e = none_some x e
only_one {X} q (y ∷ xs) x h e = at (only_one q xs x) (q y) refl
  where
    alone : (ys : List X) → length (y ∷ ys) ≤ 1 → y ∷ ys ≡ y ∷ []
    alone [] g = refl
    alone (z ∷ ys) g = absurd (omega (arith, g))

    at : (length (filter q xs) ≤ 1 → find q xs ≡ Some x → filter q xs ≡ x ∷ []) → (b : Bool) → q y ≡ b → filter q (y ∷ xs) ≡ x ∷ []
    at later true f = rw f (alone (filter q xs) (rw f at h) ∙ ap (λ z. z ∷ []) (some_same y x (rw f at e)))
    at later false f = rw f (later (rw f at h) (rw f at e))

-- none passes after the only one
pub none_after : {X : Type 0} (p : X → Bool) (x : X) (ys : List X) → length (x ∷ filter p ys) ≤ 1 → list_any p ys ≡ false
none_after p x [] g = refl
none_after {X} p x (z ∷ ys) g = at (none_after p x ys) (p z) refl
  where
    at : (length (x ∷ filter p ys) ≤ 1 → list_any p ys ≡ false) → (b : Bool) → p z ≡ b → list_any p (z ∷ ys) ≡ false
    at later true e = absurd (let k : length (x ∷ z ∷ filter p ys) ≤ 1 = rw e at g in omega (arith, k))
    at later false e = rw e (later (rw e at g))

-- the first of at most one is changed or taken out as each is
pub change_once : {X : Type 0} (p : X → Bool) (f : X → X) (xs : List X) → length (filter p xs) ≤ 1 → change p f xs ≡ change_first p f xs
change_once p f [] h = refl
change_once {X} p f (x ∷ xs) h = at (change_once p f xs) (p x) refl
  where
    at : (length (filter p xs) ≤ 1 → change p f xs ≡ change_first p f xs) → (b : Bool) → p x ≡ b → change p f (x ∷ xs) ≡ change_first p f (x ∷ xs)
    at later true e = rw e (ap (λ ys. f x ∷ ys) (change_none p f xs (none_after p x xs (rw e at h))))
    at later false e = rw e (ap (λ ys. x ∷ ys) (later (rw e at h)))

pub keep_all : {X : Type 0} (p : X → Bool) (xs : List X) → list_any p xs ≡ false → filter (λ x. not (p x)) xs ≡ xs
keep_all p [] h = refl
keep_all {X} p (x ∷ xs) h = at (keep_all p xs) (p x) refl
  where
    at : (list_any p xs ≡ false → filter (λ y. not (p y)) xs ≡ xs) → (b : Bool) → p x ≡ b → filter (λ y. not (p y)) (x ∷ xs) ≡ x ∷ xs
    at later true e = false_true (sym (rw e at h))
    at later false e = rw e (ap (λ ys. x ∷ ys) (later (rw e at h)))

pub without_once : {X : Type 0} (p : X → Bool) (xs : List X) → length (filter p xs) ≤ 1 → filter (λ x. not (p x)) xs ≡ without_first p xs
without_once p [] h = refl
without_once {X} p (x ∷ xs) h = at (without_once p xs) (p x) refl
  where
    at : (length (filter p xs) ≤ 1 → filter (λ y. not (p y)) xs ≡ without_first p xs) → (b : Bool) → p x ≡ b → filter (λ y. not (p y)) (x ∷ xs) ≡ without_first p (x ∷ xs)
    at later true e = rw e (keep_all p xs (none_after p x xs (rw e at h)))
    at later false e = rw e (ap (λ ys. x ∷ ys) (later (rw e at h)))
