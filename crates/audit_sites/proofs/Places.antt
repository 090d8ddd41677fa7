-- Rows that are numbered from a first number on: where the row of a number stands, and what a change of it makes.
use Rattle.std.proofs.Common.{◌≡◌, ℕ, zero, suc, ◌+◌, ◌<◌, ◌≤◌, ◌⊎◌, inl, inr, Bool, true, false, cond, List, [], ◌∷◌, length, get_or, set, refl, sym, ap, ◌∙◌, ⊎_elim, arith}
use Rattle.std.specs.Prelude.{◌==◌, map}
use Rattle.std.proofs.lemmas.Bool.{eq-eqb, ne_eqb}
use Rattle.commit_graph.specs.Vectors.{numbers_from}
use Rattle.promises.specs.Past.{Site, no_site}
use Rattle.audit_sites.specs.Rows.{row_of, with_site, IsNumbered}

abbrev IsFrom : ℕ → List Site → Type 0
IsFrom n rows = map (λ (s : Site). s.number) rows ≡ numbers_from n (length rows)

cons_head : (a b : ℕ) (as_after bs : List ℕ) → a ∷ as_after ≡ b ∷ bs → a ≡ b
cons_head a b as_after bs e = cc

cons_tail : (a b : ℕ) (as_after bs : List ℕ) → a ∷ as_after ≡ b ∷ bs → as_after ≡ bs
cons_tail a b as_after bs e = cc

first_is : (n : ℕ) (x : Site) (xs : List Site) → IsFrom n (x ∷ xs) → x.number ≡ n
first_is n x xs h = cons_head x.number n _ _ h

rest_is : (n : ℕ) (x : Site) (xs : List Site) → IsFrom n (x ∷ xs) → IsFrom (n + 1) xs
rest_is n x xs h = cons_tail x.number n _ _ h

-- no row has this number
abbrev IsAbsent : ℕ → ℕ → ℕ → Type 0
IsAbsent n m count = (m < n) ⊎ (n + count ≤ m)

absent_first : (n m count : ℕ) → IsAbsent n m (suc count) → n ≡ m → ⊥
absent_first n m count a e = ⊎_elim (λ l. omega (arith, l, e)) (λ l. omega (arith, l, e)) a

absent_rest : (n m count : ℕ) → IsAbsent n m (suc count) → IsAbsent (n + 1) m count
absent_rest n m count (inl l) = inl (omega (arith, l))
absent_rest n m count (inr l) = inr (omega (arith, l))

unchanged : (n m : ℕ) (f : Site → Site) (xs : List Site) → IsFrom n xs → IsAbsent n m (length xs) → with_site m f xs ≡ xs
unchanged n m f [] h a = refl
unchanged n m f (x ∷ xs) h a =
    let no : (x.number == m) ≡ false = ne_eqb x.number m (λ e. absent_first n m (length xs) a (sym (first_is n x xs h) ∙ e)) in
    rw no (ap (λ ys. x ∷ ys) (unchanged (n + 1) m f xs (rest_is n x xs h) (absent_rest n m (length xs) a)))

nobody : (n m : ℕ) (xs : List Site) → IsFrom n xs → IsAbsent n m (length xs) → row_of xs m ≡ no_site
nobody n m [] h a = refl
nobody n m (x ∷ xs) h a =
    let no : (x.number == m) ≡ false = ne_eqb x.number m (λ e. absent_first n m (length xs) a (sym (first_is n x xs h) ∙ e)) in
    rw no (nobody (n + 1) m xs (rest_is n x xs h) (absent_rest n m (length xs) a))

set_there : (n k : ℕ) (f : Site → Site) (d : Site) (xs : List Site) → IsFrom n xs → k < length xs → with_site (n + k) f xs ≡ set xs k (f (get_or xs k d))
set_there n k f d [] h l = absurd (omega (arith, l))
set_there n zero f d (x ∷ xs) h l =
    let yes : (x.number == n + 0) ≡ true = eq-eqb x.number (n + 0) (omega (arith, first_is n x xs h)) in
    rw yes (ap (λ ys. f x ∷ ys) (unchanged (n + 1) (n + 0) f xs (rest_is n x xs h) (inl (omega arith))))
set_there n (suc k) f d (x ∷ xs) h l =
    let no : (x.number == n + suc k) ≡ false = ne_eqb x.number (n + suc k) (λ e. let s = first_is n x xs h in omega (arith, s, e)) in
    let next : n + suc k ≡ (n + 1) + k = omega arith in
    rw no (ap (λ ys. x ∷ ys) (ap (λ m. with_site m f xs) next ∙ set_there (n + 1) k f d xs (rest_is n x xs h) (omega (arith, l))))

found_there : (n k : ℕ) (d : Site) (xs : List Site) → IsFrom n xs → k < length xs → row_of xs (n + k) ≡ get_or xs k d
found_there n k d [] h l = absurd (omega (arith, l))
found_there n zero d (x ∷ xs) h l =
    let yes : (x.number == n + 0) ≡ true = eq-eqb x.number (n + 0) (omega (arith, first_is n x xs h)) in
    rw yes refl
found_there n (suc k) d (x ∷ xs) h l =
    let no : (x.number == n + suc k) ≡ false = ne_eqb x.number (n + suc k) (λ e. let s = first_is n x xs h in omega (arith, s, e)) in
    let next : n + suc k ≡ (n + 1) + k = omega arith in
    rw no (ap (row_of xs) next ∙ found_there (n + 1) k d xs (rest_is n x xs h) (omega (arith, l)))

same_numbers : (m : ℕ) (f : Site → Site) → ((s : Site) → (f s).number ≡ s.number) → (xs : List Site) → map (λ (s : Site). s.number) (with_site m f xs) ≡ map (λ (s : Site). s.number) xs
same_numbers m f keep [] = refl
same_numbers m f keep (x ∷ xs) = ap (λ n. n ∷ map (λ (s : Site). s.number) (with_site m f xs)) (at (x.number == m)) ∙ ap (λ ns. x.number ∷ ns) (same_numbers m f keep xs)
  where
    at : (b : Bool) → (cond b (f x) x).number ≡ x.number
    at true = keep x
    at false = refl

same_length : (m : ℕ) (f : Site → Site) (xs : List Site) → length (with_site m f xs) ≡ length xs
same_length m f [] = refl
same_length m f (x ∷ xs) = ap suc (same_length m f xs)

-- The same of a table, whose row of a number stands one place before it.

-- a change of a site keeps the numbers
pub still_numbered : (m : ℕ) (f : Site → Site) → ((s : Site) → (f s).number ≡ s.number) → (xs : List Site) → IsNumbered xs → IsNumbered (with_site m f xs)
still_numbered m f keep xs h = same_numbers m f keep xs ∙ h ∙ sym (ap (numbers_from 1) (same_length m f xs))

-- the row that stands there is changed
pub changed_there : (m k : ℕ) (f : Site → Site) (d : Site) (xs : List Site) → IsNumbered xs → k < length xs → m ≡ k + 1 → set xs k (f (get_or xs k d)) ≡ with_site m f xs
changed_there m k f d xs h l e =
    let same : 1 + k ≡ m = omega (arith, e) in
    sym (set_there 1 k f d xs h l) ∙ ap (λ n. with_site n f xs) same

-- no row has the number
pub changed_nowhere : (m : ℕ) (f : Site → Site) (xs : List Site) → IsNumbered xs → (m ≡ 0) ⊎ (length xs < m) → xs ≡ with_site m f xs
changed_nowhere m f xs h a = sym (unchanged 1 m f xs h (⊎_elim (λ e. inl (omega (arith, e))) (λ l. inr (omega (arith, l))) a))

pub row_there : (m k : ℕ) (d : Site) (xs : List Site) → IsNumbered xs → k < length xs → m ≡ k + 1 → get_or xs k d ≡ row_of xs m
row_there m k d xs h l e =
    let same : 1 + k ≡ m = omega (arith, e) in
    sym (found_there 1 k d xs h l) ∙ ap (row_of xs) same

pub row_nowhere : (m : ℕ) (xs : List Site) → IsNumbered xs → (m ≡ 0) ⊎ (length xs < m) → no_site ≡ row_of xs m
row_nowhere m xs h a = sym (nobody 1 m xs h (⊎_elim (λ e. inl (omega (arith, e))) (λ l. inr (omega (arith, l))) a))

-- The same of what a table shows and a slice lends.

numbers_set : (xs : List Site) (k : ℕ) (d y : Site) → y.number ≡ (get_or xs k d).number → map (λ (s : Site). s.number) (set xs k y) ≡ map (λ (s : Site). s.number) xs
numbers_set [] k d y e = refl
numbers_set (x ∷ xs) zero d y e = ap (λ n. n ∷ map (λ (s : Site). s.number) xs) e
numbers_set (x ∷ xs) (suc k) d y e = ap (λ ns. x.number ∷ ns) (numbers_set xs k d y e)

length_set : (xs : List Site) (k : ℕ) (y : Site) → length (set xs k y) ≡ length xs
length_set [] k y = refl
length_set (x ∷ xs) zero y = refl
length_set (x ∷ xs) (suc k) y = ap suc (length_set xs k y)

-- another row of the same number stands there
pub set_numbered : (k : ℕ) (now new : Site) (inside : List Site) → IsNumbered inside → now ≡ get_or inside k now → new.number ≡ now.number → IsNumbered (set inside k new)
set_numbered k now new inside h is e =
    numbers_set inside k now new (e ∙ ap (λ (s : Site). s.number) is) ∙ h ∙ sym (ap (numbers_from 1) (length_set inside k new))

pub site_changed : (m k : ℕ) (f : Site → Site) (now new : Site) (table inside slice : List Site) → IsNumbered inside → inside ≡ table → slice ≡ inside
    → (k < length slice) × (m ≡ k + 1) → now ≡ get_or inside k now → new ≡ f now → set inside k new ≡ with_site m f table
site_changed m k f now new table inside slice h view lent at is changed =
    ap (set inside k) (changed ∙ ap f is)
    ∙ changed_there m k f now inside h (let l = at.0 in omega (arith, l, ap length lent)) at.1
    ∙ ap (with_site m f) view

pub site_same : (m : ℕ) (f : Site → Site) (table inside slice : List Site) → IsNumbered inside → inside ≡ table → slice ≡ inside
    → (m ≡ 0) ⊎ (length slice < m) → table ≡ with_site m f table
site_same m f table inside slice h view lent a =
    sym view ∙ changed_nowhere m f inside h (⊎_elim (λ e. inl e) (λ l. inr (omega (arith, l, ap length lent))) a) ∙ ap (with_site m f) view

-- the row that stands there
pub site_is : (m k : ℕ) (now : Site) (table inside slice : List Site) → IsNumbered inside → inside ≡ table → slice ≡ inside
    → (k < length slice) × (m ≡ k + 1) → now ≡ get_or inside k now → now ≡ row_of table m
site_is m k now table inside slice h view lent at is =
    is ∙ row_there m k now inside h (let l = at.0 in omega (arith, l, ap length lent)) at.1 ∙ ap (λ xs. row_of xs m) view

pub site_none : (m : ℕ) (none : Site) (table inside slice : List Site) → IsNumbered inside → inside ≡ table → slice ≡ inside
    → (m ≡ 0) ⊎ (length slice < m) → none ≡ no_site → none ≡ row_of table m
site_none m none table inside slice h view lent a e =
    e ∙ row_nowhere m inside h (⊎_elim (λ e. inl e) (λ l. inr (omega (arith, l, ap length lent))) a) ∙ ap (λ xs. row_of xs m) view
