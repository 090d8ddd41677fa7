-- A version put into a list in order, at its place.
use Rattle.std.proofs.Common.{◌≡◌, ℕ, zero, suc, ◌<◌, ◌≤◌, Bool, true, false, not, ◌&&◌, cond, List, [], ◌∷◌, length, get_or, insert, refl, sym, ap, ◌∙◌, arith}
use Rattle.std.specs.Prelude.{nat_lt}
use Rattle.std.proofs.lemmas.Bool.{ltb-true, ltb-false}
use Rattle.past_laws.specs.of_promises.Past.{Copy}
use Rattle.past_laws.specs.of_promises.After.{is_copy_below, with_known}
use Rattle.past_laws.specs.Agreement.{ascends}
use Rattle.past_laws.proofs.Names.{false_true, both_parts}
use Rattle.past_laws.proofs.TreesSorted.{copies}
use Rattle.audit_copies.specs.Below.{IsSplit, stands_at}

-- one that is below another isn't above it
pub below_not : (a b : Copy) → is_copy_below a b ≡ true → is_copy_below b a ≡ false
below_not a b h = at (is_copy_below b a) refl
  where
    at : (x : Bool) → is_copy_below b a ≡ x → is_copy_below b a ≡ false
    at false e = e
    at true e = false_true (sym (copies.never a) ∙ copies.through a b a h e)

pub put_here : (new x : Copy) (xs : List Copy) → is_copy_below new x ≡ true → with_known new (x ∷ xs) ≡ new ∷ x ∷ xs
put_here new x xs h = ap (λ b. cond b (new ∷ x ∷ xs) (cond (is_copy_below x new) (x ∷ with_known new xs) (x ∷ xs))) h

pub put_later : (new x : Copy) (xs : List Copy) → is_copy_below x new ≡ true → with_known new (x ∷ xs) ≡ x ∷ with_known new xs
put_later new x xs h =
    ap (λ b. cond b (new ∷ x ∷ xs) (cond (is_copy_below x new) (x ∷ with_known new xs) (x ∷ xs))) (below_not x new h)
    ∙ ap (λ b. cond b (x ∷ with_known new xs) (x ∷ xs)) h

put_nowhere : (new x : Copy) (xs : List Copy) → is_copy_below new x ≡ false → is_copy_below x new ≡ false → with_known new (x ∷ xs) ≡ x ∷ xs
put_nowhere new x xs h k =
    ap (λ b. cond b (new ∷ x ∷ xs) (cond (is_copy_below x new) (x ∷ with_known new xs) (x ∷ xs))) h
    ∙ ap (λ b. cond b (x ∷ with_known new xs) (x ∷ xs)) k

-- it comes before the first that is above it
known_new : (new : Copy) (xs : List Copy) (k : ℕ) → k ≤ length xs
    → ((i : ℕ) (d : Copy) → i < k → is_copy_below (get_or xs i d) new ≡ true)
    → ((d : Copy) → k < length xs → is_copy_below new (get_or xs k d) ≡ true)
    → with_known new xs ≡ insert xs k new
known_new new [] zero l b a = refl
known_new new [] (suc k) l b a = absurd (omega (arith, l))
known_new new (x ∷ xs) zero l b a = put_here new x xs (a x (omega arith))
known_new new (x ∷ xs) (suc k) l b a =
    put_later new x xs (b 0 x (omega arith))
    ∙ ap (λ ys. x ∷ ys) (known_new new xs k (omega (arith, l)) (λ i d h. b (suc i) d (omega (arith, h))) (λ d h. a d (omega (arith, h))))

-- it stands there already
known_old : (new : Copy) (xs : List Copy) (k : ℕ) → k < length xs
    → ((i : ℕ) (d : Copy) → i < k → is_copy_below (get_or xs i d) new ≡ true)
    → ((d : Copy) → is_copy_below (get_or xs k d) new ≡ false)
    → ((d : Copy) → is_copy_below new (get_or xs k d) ≡ false)
    → with_known new xs ≡ xs
known_old new [] k l b a n = absurd (omega (arith, l))
known_old new (x ∷ xs) zero l b a n = put_nowhere new x xs (n x) (a x)
known_old new (x ∷ xs) (suc k) l b a n =
    put_later new x xs (b 0 x (omega arith))
    ∙ ap (λ ys. x ∷ ys) (known_old new xs k (omega (arith, l)) (λ i d h. b (suc i) d (omega (arith, h))) a n)

get_same : (xs : List Copy) (k : ℕ) (d e : Copy) → k < length xs → get_or xs k d ≡ get_or xs k e
get_same [] k d e l = absurd (omega (arith, l))
get_same (x ∷ xs) zero d e l = refl
get_same (x ∷ xs) (suc k) d e l = get_same xs k d e (omega (arith, l))

not_true : (b : Bool) → not b ≡ true → b ≡ false
not_true true h = false_true h
not_true false h = refl

-- what stands at the place of a version is the version itself
pub stands : (xs : List Copy) (k : ℕ) (v : Copy) → stands_at xs k v ≡ true → (k < length xs) × ((d : Copy) → is_copy_below v (get_or xs k d) ≡ false)
stands xs k v h =
    let parts : (nat_lt k (length xs) ≡ true) × (not (is_copy_below v (get_or xs k v)) ≡ true) = both_parts (nat_lt k (length xs)) (not (is_copy_below v (get_or xs k v))) h in
    let l : k < length xs = ltb-true k (length xs) parts.0 in
    (l, λ d. ap (is_copy_below v) (get_same xs k d v l) ∙ not_true (is_copy_below v (get_or xs k v)) parts.1)

-- where it doesn't stand, the next one is above it
pub stands_not : (xs : List Copy) (k : ℕ) (v : Copy) → stands_at xs k v ≡ false → (d : Copy) → k < length xs → is_copy_below v (get_or xs k d) ≡ true
stands_not xs k v h d l = ap (is_copy_below v) (get_same xs k d v l) ∙ at (nat_lt k (length xs)) (is_copy_below v (get_or xs k v)) refl h
  where
    at : (b x : Bool) → nat_lt k (length xs) ≡ b → (b && not x) ≡ false → x ≡ true
    at true true e f = refl
    at true false e f = false_true (sym f)
    at false x e f = absurd (omega (arith, l, ltb-false k (length xs) e))

-- the same of a list that a table shows and that a slice lends
pub noted_old : (new : Copy) (table rows slice : List Copy) (k : ℕ) → rows ≡ table → slice ≡ rows → ascends is_copy_below rows ≡ true
    → (ascends is_copy_below slice ≡ true → IsSplit (λ v. is_copy_below v new) slice k) → stands_at slice k new ≡ true → table ≡ with_known new table
noted_old new table rows slice k view lent up split h =
    let s : IsSplit (λ v. is_copy_below v new) slice k = split (ap (ascends is_copy_below) lent ∙ up) in
    let there = stands slice k new h in
    let same : with_known new slice ≡ slice = known_old new slice k there.0 s.first (λ d. s.other k d (omega arith) there.0) there.1 in
    sym (ap (with_known new) (sym (lent ∙ view)) ∙ (same ∙ (lent ∙ view)))

pub noted_new : (new : Copy) (table rows slice after : List Copy) (k : ℕ) → rows ≡ table → slice ≡ rows → ascends is_copy_below rows ≡ true
    → (ascends is_copy_below slice ≡ true → IsSplit (λ v. is_copy_below v new) slice k) → stands_at slice k new ≡ false → after ≡ insert rows k new → after ≡ with_known new table
noted_new new table rows slice after k view lent up split h put =
    let s : IsSplit (λ v. is_copy_below v new) slice k = split (ap (ascends is_copy_below) lent ∙ up) in
    let same : with_known new slice ≡ insert slice k new = known_new new slice k s.within s.first (stands_not slice k new h) in
    put ∙ (ap (λ xs. insert xs k new) (sym lent) ∙ (sym same ∙ ap (with_known new) (lent ∙ view)))
