-- A row put in the place of the first one that passes, and what is found then.
use Rattle.std.proofs.Common.{◌≡◌, ℕ, zero, suc, ◌+◌, ◌≤◌, ◌<◌, Bool, true, false, List, [], ◌∷◌, ◌++◌, length, get_or, set, Option, None, Some, refl, sym, ap, ◌∙◌, ⊎_elim, arith}
use Rattle.std.specs.Prelude.{map, take, drop}
use Rattle.std.specs.List.{position_from, find}
use Rattle.std.proofs.lemmas.Bool.{cases_Bool}
use Rattle.tree_model.specs.Lists.{put_first, change_first, without_first}

none_some : {X : Type 0} (x : X) → ◌≡◌ {A = Option X} None (Some x) → ⊥
none_some x e = cc

some_eq : {X : Type 0} (x y : X) → ◌≡◌ {A = Option X} (Some x) (Some y) → x ≡ y
some_eq x y e = cc

-- the place of the first row that passes
pub record IsAt {X : Type 0} (p : X → Bool) (xs : List X) (k : ℕ) : Type 0 where
  pub within : k < length xs
  pub puts : (new : X) → put_first p new xs ≡ set xs k new
  pub changes : (change : X → X) (d : X) → change_first p change xs ≡ set xs k (change (get_or xs k d))
  pub finds : (d : X) → find p xs ≡ Some (get_or xs k d)
  pub takes : without_first p xs ≡ take k xs ++ drop (suc k) xs

IsAt-here : {X : Type 0} (p : X → Bool) (x : X) (xs : List X) → p x ≡ true → IsAt p (x ∷ xs) 0
IsAt-here p x xs t = record { within = omega arith; puts = λ new. rw t refl; changes = λ change d. rw t refl; finds = λ d. rw t refl; takes = rw t refl }

IsAt-there : {X : Type 0} (p : X → Bool) (x : X) (xs : List X) (i : ℕ) → p x ≡ false → IsAt p xs i → IsAt p (x ∷ xs) (suc i)
IsAt-there p x xs i f a = record {
  within = omega (arith, a.within);
  puts = λ new. rw f (ap (λ ys. x ∷ ys) (a.puts new));
  changes = λ change d. rw f (ap (λ ys. x ∷ ys) (a.changes change d));
  finds = λ d. rw f (a.finds d);
  takes = rw f (ap (λ ys. x ∷ ys) a.takes);
}

not_below : {X : Type 0} (p : X → Bool) (xs : List X) (n k : ℕ) → position_from p n xs ≡ Some k → n ≤ k
not_below p [] n k e = absurd (none_some k e)
not_below p (x ∷ xs) n k e =
    ⊎_elim (λ (t : p x ≡ true). let same : n ≡ k = some_eq n k (rw t at e) in omega (arith, same))
    (λ (f : p x ≡ false). let more : n + 1 ≤ k = not_below p xs (n + 1) k (rw f at e) in omega (arith, more))
    (cases_Bool (p x))

IsAt-from : {X : Type 0} (p : X → Bool) (xs : List X) (n i : ℕ) → position_from p n xs ≡ Some (n + i) → IsAt p xs i
IsAt-from p [] n i e = absurd (none_some (n + i) e)
IsAt-from p (x ∷ xs) n zero e =
    ⊎_elim (λ (t : p x ≡ true). IsAt-here p x xs t)
    (λ (f : p x ≡ false). let more : n + 1 ≤ n + 0 = not_below p xs (n + 1) (n + 0) (rw f at e) in absurd (omega (arith, more)))
    (cases_Bool (p x))
IsAt-from p (x ∷ xs) n (suc i) e =
    ⊎_elim (λ (t : p x ≡ true). let same : n ≡ n + suc i = some_eq n (n + suc i) (rw t at e) in absurd (omega (arith, same)))
    (λ (f : p x ≡ false). let next : n + suc i ≡ (n + 1) + i = omega arith in
    IsAt-there p x xs i f (IsAt-from p xs (n + 1) i ((rw f at e) ∙ ap (λ k. Some k) next)))
    (cases_Bool (p x))

-- the place that a search gives is that of the first row that passes
pub IsAt-position : {X : Type 0} (p : X → Bool) (xs : List X) (k : ℕ) → position_from p 0 xs ≡ Some k → IsAt p xs k
IsAt-position p xs k e = let same : k ≡ 0 + k = omega arith in IsAt-from p xs 0 k (e ∙ ap (λ i. Some i) same)

-- no row passes
pub record IsNowhere {X : Type 0} (p : X → Bool) (xs : List X) : Type 0 where
  pub puts : (new : X) → put_first p new xs ≡ xs ++ new ∷ []
  pub changes : (change : X → X) → change_first p change xs ≡ xs
  pub finds : find p xs ≡ None
  pub takes : without_first p xs ≡ xs

some_none : {X : Type 0} (x : X) → ◌≡◌ {A = Option X} (Some x) None → ⊥
some_none x e = cc

IsNowhere-from : {X : Type 0} (p : X → Bool) (xs : List X) (n : ℕ) → position_from p n xs ≡ None → IsNowhere p xs
IsNowhere-from p [] n e = record { puts = λ new. refl; changes = λ change. refl; finds = refl; takes = refl }
IsNowhere-from p (x ∷ xs) n e =
    ⊎_elim (λ (t : p x ≡ true). absurd (some_none n (rw t at e)))
    (λ (f : p x ≡ false). let rest = IsNowhere-from p xs (n + 1) (rw f at e) in
    record { puts = λ new. rw f (ap (λ ys. x ∷ ys) (rest.puts new)); changes = λ change. rw f (ap (λ ys. x ∷ ys) (rest.changes change)); finds = rw f rest.finds; takes = rw f (ap (λ ys. x ∷ ys) rest.takes) })
    (cases_Bool (p x))

pub IsNowhere-position : {X : Type 0} (p : X → Bool) (xs : List X) → position_from p 0 xs ≡ None → IsNowhere p xs
IsNowhere-position p xs e = IsNowhere-from p xs 0 e

-- the same, of a list that a table shows and that a slice lends
pub find-at : {X : Type 0} (p : X → Bool) (xs : List X) (k : ℕ) (d : X) → Some k ≡ position_from p 0 xs → Some (get_or xs k d) ≡ find p xs
find-at p xs k d e = sym ((IsAt-position p xs k (sym e)).finds d)

pub find-nowhere : {X : Type 0} (p : X → Bool) (xs : List X) → None ≡ position_from p 0 xs → None ≡ find p xs
find-nowhere p xs e = sym (IsNowhere-position p xs (sym e)).finds

pub put_first-at : {X : Type 0} (p : X → Bool) (new : X) (table inside slice : List X) (k : ℕ) → inside ≡ table → slice ≡ inside
    → Some k ≡ position_from p 0 slice → set inside k new ≡ put_first p new table
put_first-at p new table inside slice k view lent e =
    ap (λ xs. set xs k new) view
    ∙ sym ((IsAt-position p table k (sym (e ∙ ap (position_from p 0) (lent ∙ view)))).puts new)

pub put_first-nowhere : {X : Type 0} (p : X → Bool) (new : X) (table inside slice after : List X) → inside ≡ table → slice ≡ inside
    → None ≡ position_from p 0 slice → after ≡ inside ++ new ∷ [] → after ≡ put_first p new table
put_first-nowhere p new table inside slice after view lent e pushed =
    pushed ∙ ap (λ xs. xs ++ new ∷ []) view
    ∙ sym ((IsNowhere-position p table (sym (e ∙ ap (position_from p 0) (lent ∙ view)))).puts new)

pub change_first-at : {X : Type 0} (p : X → Bool) (change : X → X) (d : X) (table inside slice : List X) (k : ℕ) → inside ≡ table → slice ≡ inside
    → Some k ≡ position_from p 0 slice → set inside k (change (get_or inside k d)) ≡ change_first p change table
change_first-at p change d table inside slice k view lent e =
    ap (λ xs. set xs k (change (get_or xs k d))) view
    ∙ sym ((IsAt-position p table k (sym (e ∙ ap (position_from p 0) (lent ∙ view)))).changes change d)

pub change_first-nowhere : {X : Type 0} (p : X → Bool) (change : X → X) (table inside slice : List X) → inside ≡ table → slice ≡ inside
    → None ≡ position_from p 0 slice → table ≡ change_first p change table
change_first-nowhere p change table inside slice view lent e =
    sym ((IsNowhere-position p table (sym (e ∙ ap (position_from p 0) (lent ∙ view)))).changes change)

pub without_first-at : {X : Type 0} (p : X → Bool) (table inside slice : List X) (k : ℕ) → inside ≡ table → slice ≡ inside
    → Some k ≡ position_from p 0 slice → take k inside ++ drop (suc k) inside ≡ without_first p table
without_first-at p table inside slice k view lent e =
    ap (λ xs. take k xs ++ drop (suc k) xs) view
    ∙ sym (IsAt-position p table k (sym (e ∙ ap (position_from p 0) (lent ∙ view)))).takes

pub without_first-nowhere : {X : Type 0} (p : X → Bool) (table inside slice : List X) → inside ≡ table → slice ≡ inside
    → None ≡ position_from p 0 slice → table ≡ without_first p table
without_first-nowhere p table inside slice view lent e =
    sym (IsNowhere-position p table (sym (e ∙ ap (position_from p 0) (lent ∙ view)))).takes

-- one more row is changed
pub map-step : {X : Type 0} (f : X → X) (xs items : List X) (i : ℕ) (d : X) → i < length xs → items ≡ map f (take i xs) ++ drop i xs
    → set items i (f (get_or items i d)) ≡ map f (take (i + 1) xs) ++ drop (i + 1) xs
map-step {X = X} f xs items i d h e =
    let next : suc i ≡ i + 1 = omega arith in
    ap (λ ys. set ys i (f (get_or ys i d))) e ∙ by_place xs i h ∙ ap (λ k. map f (take k xs) ++ drop k xs) next
  where
    by_place : (xs : List X) (i : ℕ) → i < length xs → set (map f (take i xs) ++ drop i xs) i (f (get_or (map f (take i xs) ++ drop i xs) i d)) ≡ map f (take (suc i) xs) ++ drop (suc i) xs
    by_place [] i h = absurd (omega (arith, h))
    by_place (x ∷ xs) zero h = refl
    by_place (x ∷ xs) (suc i) h = ap (λ ys. f x ∷ ys) (by_place xs i (omega (arith, h)))

-- what a place of a list lends is changed
pub changed-at : {X : Type 0} (p : X → Bool) (change : X → X) (now : X) (table inside slice : List X) (k : ℕ) → inside ≡ table → slice ≡ inside
    → Some k ≡ position_from p 0 slice → now ≡ get_or inside k now → set inside k (change now) ≡ change_first p change table
changed-at p change now table inside slice k view lent e is =
    ap (λ x. set inside k (change x)) is ∙ change_first-at p change now table inside slice k view lent e
