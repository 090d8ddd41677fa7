-- Of a list in which one at most passes a test: whether one passes it and another, by the first that passes it.
use Rattle.std.proofs.Common.{◌≡◌, ℕ, ◌≤◌, Bool, true, false, ◌&&◌, ◌||◌, cond, List, [], ◌∷◌, length, Option, None, Some, refl, sym, ap, ◌∙◌, ⊎_elim, arith}
use Rattle.std.specs.Prelude.{◌==◌, filter}
use Rattle.std.specs.List.{find, list_any, list_all}
use Rattle.std.proofs.lemmas.Bool.{cases_eq, eq-eqb, ne_eqb}
use Rattle.plain_facts.proofs.Options.{none_some, some_none, some_same}
use Rattle.locus_ids.specs.declared.ids.EpochId.{EpochId}
use Rattle.trace_book.specs.Same.{same_epoch}
use Rattle.tree_model.specs.Epochs.{is_in}
use Rattle.promises.specs.Past.{Epoch, first_or}
use Rattle.promises.specs.After.{is_epoch}

none_kept : {X : Type 0} (p : X → Bool) (xs : List X) → find p xs ≡ None → filter p xs ≡ []
none_kept p [] e = refl
none_kept {X} p (x ∷ xs) e = at (none_kept p xs) (p x) e
  where
    at : (find p xs ≡ None → filter p xs ≡ []) → (b : Bool) → cond b (Some x) (find p xs) ≡ None → cond b (x ∷ filter p xs) (filter p xs) ≡ []
    at later true t = absurd (some_none x t)
    at later false t = later t

empty : {X : Type 0} (ys : List X) → length ys ≤ 0 → ys ≡ []
empty [] h = refl
empty (y ∷ ys) h = absurd (omega (arith, h))

-- the first that passes is the only one
one_kept : {X : Type 0} (p : X → Bool) (xs : List X) (t : X) → length (filter p xs) ≤ 1 → find p xs ≡ Some t → filter p xs ≡ t ∷ []
one_kept p [] t few e = absurd (none_some t e)
one_kept {X} p (x ∷ xs) t few e = at (one_kept p xs t) (p x) few e
  where
    at : (length (filter p xs) ≤ 1 → find p xs ≡ Some t → filter p xs ≡ t ∷ []) → (b : Bool) → length (cond b (x ∷ filter p xs) (filter p xs)) ≤ 1 → cond b (Some x) (find p xs) ≡ Some t → cond b (x ∷ filter p xs) (filter p xs) ≡ t ∷ []
    at later true h f = ap (λ ys. x ∷ ys) (empty (filter p xs) (omega (arith, h))) ∙ ap (λ y. y ∷ []) (some_same x t f)
    at later false h f = later h f

any_among : {X : Type 0} (p q : X → Bool) (xs : List X) → list_any (λ x. p x && q x) xs ≡ list_any q (filter p xs)
any_among p q [] = refl
any_among {X} p q (x ∷ xs) = at (any_among p q xs) (p x)
  where
    at : list_any (λ y. p y && q y) xs ≡ list_any q (filter p xs) → (b : Bool) → (b && q x) || list_any (λ y. p y && q y) xs ≡ list_any q (cond b (x ∷ filter p xs) (filter p xs))
    at later true = ap (λ b. q x || b) later
    at later false = later

or_false : (b : Bool) → (b || false) ≡ b
or_false true = refl
or_false false = refl

and_true : (b : Bool) → (b && true) ≡ b
and_true true = refl
and_true false = refl

pub any_found : {X : Type 0} (p q : X → Bool) (xs : List X) (t : X) → length (filter p xs) ≤ 1 → Some t ≡ find p xs → q t ≡ list_any (λ x. p x && q x) xs
any_found p q xs t few e = sym (any_among p q xs ∙ ap (list_any q) (one_kept p xs t few (sym e)) ∙ or_false (q t))

pub any_nowhere : {X : Type 0} (p q : X → Bool) (xs : List X) → None ≡ find p xs → false ≡ list_any (λ x. p x && q x) xs
any_nowhere p q xs e = sym (any_among p q xs ∙ ap (list_any q) (none_kept p xs (sym e)))

pub all_found : {X : Type 0} (p q : X → Bool) (xs : List X) (t : X) → length (filter p xs) ≤ 1 → Some t ≡ find p xs → q t ≡ list_all q (filter p xs)
all_found p q xs t few e = sym (ap (list_all q) (one_kept p xs t few (sym e)) ∙ and_true (q t))

pub all_nowhere : {X : Type 0} (p q : X → Bool) (xs : List X) → None ≡ find p xs → true ≡ list_all q (filter p xs)
all_nowhere p q xs e = sym (ap (list_all q) (none_kept p xs (sym e)))

pub first_there : {X : Type 0} (d : X) (p : X → Bool) (xs : List X) (t : X) → Some t ≡ find p xs → t ≡ first_or d p xs
first_there d p [] t e = absurd (some_none t e)
first_there {X} d p (x ∷ xs) t e = at (first_there d p xs t) (p x) e
  where
    at : (Some t ≡ find p xs → t ≡ first_or d p xs) → (b : Bool) → Some t ≡ cond b (Some x) (find p xs) → t ≡ cond b x (first_or d p xs)
    at later true f = some_same t x f
    at later false f = later f

pub first_else : {X : Type 0} (d : X) (p : X → Bool) (xs : List X) → None ≡ find p xs → d ≡ first_or d p xs
first_else d p [] e = refl
first_else {X} d p (x ∷ xs) e = at (first_else d p xs) (p x) e
  where
    at : (None ≡ find p xs → d ≡ first_or d p xs) → (b : Bool) → None ≡ cond b (Some x) (find p xs) → d ≡ cond b x (first_or d p xs)
    at later true f = absurd (none_some x f)
    at later false f = later f

-- The epoch that a site is in is there once, where each epoch is.

none_home : (ts : List Epoch) → filter (λ (t : Epoch). is_in None t.id) ts ≡ []
none_home [] = refl
none_home (t ∷ ts) = none_home ts

number_turned : (a b : ℕ) → (a == b) ≡ (b == a)
number_turned a b = ⊎_elim (λ e. eq-eqb a b e ∙ sym (eq-eqb b a (sym e))) (λ n. ne_eqb a b n ∙ sym (ne_eqb b a (λ e. n (sym e)))) (cases_eq a b)

epoch_turned : (a b : EpochId) → same_epoch a b ≡ same_epoch b a
epoch_turned a b = rw (number_turned a.number b.number, number_turned a.site b.site, number_turned a.boot b.boot) refl

pub home_once : (ts : List Epoch) (home : Option EpochId) → ((e : EpochId) → length (filter (is_epoch e) ts) ≤ 1) → length (filter (λ (t : Epoch). is_in home t.id) ts) ≤ 1
home_once ts None once = let none : length (filter (λ (t : Epoch). is_in None t.id) ts) ≡ 0 = ap length (none_home ts) in omega (arith, none)
home_once ts (Some e) once =
    let same : length (filter (λ (t : Epoch). is_in (Some e) t.id) ts) ≡ length (filter (is_epoch e) ts) = ap (λ (p : Epoch → Bool). length (filter p ts)) (λ i t. epoch_turned e t.id i) in
    let few : length (filter (is_epoch e) ts) ≤ 1 = once e in
    omega (arith, same, few)
