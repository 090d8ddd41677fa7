-- Sums over tables, and how many pages lists have.
use Rattle.std.proofs.Common.{◌≡◌, ◌≤◌, ◌<◌, ℕ, zero, suc, ◌+◌, ◌-◌, ◌*◌, ◌==◌, nat_lt, Bool, true, false, not, ◌||◌, cond, List, [], ◌∷◌, ◌++◌, length, filter, Option, None, Some, refl, sym, ◌∙◌, ap, subst, arith}
use Rattle.std.specs.List.{AllByRecursion}
use Rattle.std.proofs.Common.{length-append}
use Rattle.std.proofs.lemmas.Bool.Decides.{nat_tests}
use Rattle.role_steps.proofs.of_plain_facts.Tests.{true_false}
use Rattle.locus_ids.specs.Sizes.{page_bytes}
use Rattle.file_content.specs.Pages.{has_page, pages_needed, pages_of, pages_within, with_page, with_pages}
use Rattle.role_steps.specs.Own.{Every}
use Rattle.role_steps.specs.Tables.{row, total, with_latest, with_row}
use Rattle.tree_laws.specs.Stores.{Ascends}
use Rattle.store_laws.specs.Works.Working.{AreBelow, FitsOver}
use Rattle.store_laws.proofs.Works.PageLists.{kept_there, page_there, passed_over}

-- ---- tables ----

abbrev pub measured : {A : Type 0} → (A → ℕ) → Option A → ℕ
measured m None = 0
measured m (Some x) = m x

-- one row in place of another
pub latest_total : {A : Type 0} (m key : A → ℕ) (x : A) (xs : List A) → total m (with_latest key x xs) + measured m (row key (key x) xs) ≡ total m xs + m x
latest_total m key x [] = omega arith
latest_total {A} m key x (y ∷ ys) = over (key y == key x) (latest_total m key x ys)
  where
    over : (b : Bool) → total m (with_latest key x ys) + measured m (row key (key x) ys) ≡ total m ys + m x →
        total m (elim b [ true ↦ x ∷ ys | false ↦ y ∷ with_latest key x ys ]) + measured m (elim b as (λ (z : Bool). Option A) [ true ↦ Some y | false ↦ row key (key x) ys ]) ≡ total m (y ∷ ys) + m x
    over true later = omega arith
    over false later = omega (arith, later)

pub row_more : {A : Type 0} (m key : A → ℕ) (x : A) (xs : List A) → total m (with_row key x xs) ≤ total m xs + m x
row_more m key x [] = omega arith
row_more {A} m key x (y ∷ ys) = over (nat_lt (key y) (key x)) (row_more m key x ys)
  where
    put : (b : Bool) → total m (elim b as (λ (z : Bool). List A) [ true ↦ x ∷ ys | false ↦ x ∷ y ∷ ys ]) ≤ total m (y ∷ ys) + m x
    put true = omega arith
    put false = omega arith

    over : (b : Bool) → total m (with_row key x ys) ≤ total m ys + m x →
        total m (elim b as (λ (z : Bool). List A) [ true ↦ y ∷ with_row key x ys | false ↦ elim (key y == key x) as (λ (z : Bool). List A) [ true ↦ x ∷ ys | false ↦ x ∷ y ∷ ys ] ]) ≤ total m (y ∷ ys) + m x
    over true later = omega (arith, later)
    over false later = put (key y == key x)

above_none : {A : Type 0} (key : A → ℕ) (k : ℕ) (xs : List A) → Every (λ (y : A). k < key y) xs → row key k xs ≡ None
above_none key k [] h = refl
above_none {A} key k (y ∷ ys) h = over (key y == k) refl (above_none key k ys h.1)
  where
    apart : (key y == k) ≡ true → ⊥
    apart e = (let low : k < key y = h.0 in grind (arith, nat_tests))

    over : (b : Bool) → (key y == k) ≡ b → row key k ys ≡ None → (elim b as (λ (z : Bool). Option A) [ true ↦ Some y | false ↦ row key k ys ]) ≡ None
    over true e later = absurd (apart e)
    over false e later = later

every_above : {A : Type 0} (key : A → ℕ) (a b : ℕ) (xs : List A) → a < b → Every (λ (y : A). b < key y) xs → Every (λ (y : A). a < key y) xs
every_above key a b [] le h = tt
every_above key a b (y ∷ ys) le h = (first (key y) h.0, every_above key a b ys le h.1)
  where
    first : (k : ℕ) → b < k → a < k
    first k l = omega (arith, le, l)

-- in an ascending table
pub row_total : {A : Type 0} (m key : A → ℕ) (x : A) (xs : List A) → Ascends key xs → total m (with_row key x xs) + measured m (row key (key x) xs) ≡ total m xs + m x
row_total m key x [] h = omega arith
row_total {A} m key x (y ∷ ys) h = over (nat_lt (key y) (key x)) refl (row_total m key x ys h.1)
  where
    unequal : nat_lt (key y) (key x) ≡ true → (key y == key x) ≡ false
    unequal e = grind (arith, nat_tests)

    greater : nat_lt (key y) (key x) ≡ false → (key y == key x) ≡ false → key x < key y
    greater e f = grind (arith, nat_tests)

    found : (b : Bool) → (key y == key x) ≡ b → b ≡ false → row key (key x) (y ∷ ys) ≡ row key (key x) ys
    found b e f = ap (λ (z : Bool). elim z as (λ (a : Bool). Option A) [ true ↦ Some y | false ↦ row key (key x) ys ]) (e ∙ f)

    put : (b : Bool) → (key y == key x) ≡ b → nat_lt (key y) (key x) ≡ false →
        total m (elim b as (λ (z : Bool). List A) [ true ↦ x ∷ ys | false ↦ x ∷ y ∷ ys ]) + measured m (elim b as (λ (z : Bool). Option A) [ true ↦ Some y | false ↦ row key (key x) ys ]) ≡ total m (y ∷ ys) + m x
    put true e f = omega arith
    put false e f = none (row key (key x) ys) (above_none key (key x) ys (every_above key (key x) (key y) ys (greater f e) h.0))
      where
        none : (o : Option A) → o ≡ None → (m x + (m y + total m ys)) + measured m o ≡ (m y + total m ys) + m x
        none o e = subst (λ (q : Option A). (m x + (m y + total m ys)) + measured m q ≡ (m y + total m ys) + m x) (sym e) (omega arith)

    over : (b : Bool) → nat_lt (key y) (key x) ≡ b → total m (with_row key x ys) + measured m (row key (key x) ys) ≡ total m ys + m x →
        total m (elim b as (λ (z : Bool). List A) [ true ↦ y ∷ with_row key x ys | false ↦ elim (key y == key x) as (λ (z : Bool). List A) [ true ↦ x ∷ ys | false ↦ x ∷ y ∷ ys ] ]) + measured m (row key (key x) (y ∷ ys)) ≡ total m (y ∷ ys) + m x
    over true e later = subst (λ (o : Option A). (m y + total m (with_row key x ys)) + measured m o ≡ (m y + total m ys) + m x) (sym (found (key y == key x) refl (unequal e))) (omega (arith, later))
    over false e later = put (key y == key x) refl e

-- ---- how many pages ----

filter_length : (f : ℕ → Bool) (xs : List ℕ) → length (filter f xs) ≤ length xs
filter_length f [] = omega arith
filter_length f (x ∷ xs) = over (f x) (filter_length f xs)
  where
    over : (b : Bool) → length (filter f xs) ≤ length xs → length (cond b (x ∷ filter f xs) (filter f xs)) ≤ length (x ∷ xs)
    over true later = omega (arith, later)
    over false later = omega (arith, later)

abbrev without : ℕ → List ℕ → List ℕ
without q xs = filter (λ (p : ℕ). not (p == q)) xs

-- without a page that it has, a list is shorter
shorter : (q : ℕ) (xs : List ℕ) → has_page xs q ≡ true → length (without q xs) + 1 ≤ length xs
shorter q [] h = absurd (true_false (sym h))
shorter q (x ∷ xs) h = over (x == q) h (filter_length (λ (p : ℕ). not (p == q)) xs) (shorter q xs)
  where
    over : (b : Bool) → b || has_page xs q ≡ true → length (without q xs) ≤ length xs → (has_page xs q ≡ true → length (without q xs) + 1 ≤ length xs) → length (cond (not b) (x ∷ without q xs) (without q xs)) + 1 ≤ length (x ∷ xs)
    over true h le later = omega (arith, le)
    over false h le later = (let l : length (without q xs) + 1 ≤ length xs = later h in omega (arith, l))

still_has : (q p : ℕ) (xs : List ℕ) → (p == q) ≡ false → has_page xs p ≡ true → has_page (without q xs) p ≡ true
still_has q p xs ne h = over (has_page (without q xs) p) refl
  where
    clash : not (p == q) ≡ false → ⊥
    clash e = true_false (sym (ap not ne) ∙ e)

    over : (b : Bool) → has_page (without q xs) p ≡ b → b ≡ true
    over true e = refl
    over false e = absurd (clash (passed_over (λ (x : ℕ). not (x == q)) xs p h e))

-- a list that has so many pages in a row is as long at least
pub has_all : (first count : ℕ) (xs : List ℕ) → ((p : ℕ) → first ≤ p → p < first + count → has_page xs p ≡ true) → count ≤ length xs
has_all first zero xs h = omega arith
has_all first (suc count) xs h =
    let later : count ≤ length (without (first + count) xs) = has_all first count (without (first + count) xs) (λ p low high. still_has (first + count) p xs (apart p high) (h p low (up p high))) in
    let here : length (without (first + count) xs) + 1 ≤ length xs = shorter (first + count) xs (h (first + count) (omega arith) (omega arith)) in
    omega (arith, later, here)
  where
    apart : (p : ℕ) → p < first + count → (p == first + count) ≡ false
    apart p l = grind (arith, nat_tests)

    up : (p : ℕ) → p < first + count → p < first + suc count
    up p l = omega (arith, l)

-- a working content has no more pages than that of its version and the changed ones
pub few_pages : (base content changed : List ℕ) → FitsOver base content changed → pages_of (length content) ≤ pages_of (length base) + length changed
few_pages base content changed fits = sum (pages_of (length content)) (pages_of (length base)) (length changed) (has_all (pages_of (length base)) (pages_of (length content) - pages_of (length base)) changed (λ p low high. changed_so p low (inside p high low)))
  where
    sum : (n b c : ℕ) → n - b ≤ c → n ≤ b + c
    sum n b c le = omega (arith, le)

    inside : (p : ℕ) → p < pages_of (length base) + (pages_of (length content) - pages_of (length base)) → pages_of (length base) ≤ p → p < pages_of (length content)
    inside p high low = plain (pages_of (length base)) (pages_of (length content)) high low
      where
        plain : (b n : ℕ) → p < b + (n - b) → b ≤ p → p < n
        plain b n high low = omega (arith, high, low)

    changed_so : (p : ℕ) → pages_of (length base) ≤ p → p < pages_of (length content) → has_page changed p ≡ true
    changed_so p low inside = over (has_page changed p) refl
      where
        clash : p < pages_of (length base) → ⊥
        clash high = plain (pages_of (length base)) low high
          where
            plain : (b : ℕ) → b ≤ p → p < b → ⊥
            plain b l h = omega (arith, l, h)

        over : (b : Bool) → has_page changed p ≡ b → b ≡ true
        over true e = refl
        over false e = absurd (clash (kept_there base content p inside (fits.kept p inside e)))

-- ---- changed pages after an effect ----

has_more : (q p : ℕ) (ys : List ℕ) → has_page ys p ≡ true → has_page (with_page q ys) p ≡ true
has_more q p ys h = over (has_page ys q)
  where
    added : (zs : List ℕ) → has_page zs p ≡ true → has_page (zs ++ q ∷ []) p ≡ true
    added [] h = absurd (true_false (sym h))
    added (z ∷ zs) h = at (z == p) h (added zs)
      where
        at : (b : Bool) → b || has_page zs p ≡ true → (has_page zs p ≡ true → has_page (zs ++ q ∷ []) p ≡ true) → b || has_page (zs ++ q ∷ []) p ≡ true
        at true h later = refl
        at false h later = later h

    over : (b : Bool) → has_page (cond b ys (ys ++ q ∷ [])) p ≡ true
    over true = h
    over false = added ys h

-- those that were changed before are there
abbrev AreThere : List ℕ → List ℕ → List ℕ → Type 0
AreThere changed ys pages = AllByRecursion (λ (p : ℕ). has_page changed p ≡ true → has_page ys p ≡ true) pages

there_more : (changed ys : List ℕ) (q : ℕ) (pages : List ℕ) → AreThere changed ys pages → AreThere changed (with_page q ys) pages
there_more changed ys q [] h = tt
there_more changed ys q (p ∷ ps) h = ((λ k. has_more q p ys (h.0 k)), there_more changed ys q ps h.1)

pub needed_more : (changed ys pages : List ℕ) → AreThere changed ys pages → length (with_pages pages ys) ≤ length ys + pages_needed pages changed
needed_more changed ys [] h = omega arith
needed_more changed ys (p ∷ ps) h = over (has_page changed p) refl (needed_more changed (with_page p ys) ps (there_more changed ys p ps h.1))
  where
    put : (b : Bool) → length (cond b ys (ys ++ p ∷ [])) ≤ length ys + 1
    put true = omega arith
    put false = (let e : length (ys ++ p ∷ []) ≡ length ys + 1 = length-append ys (p ∷ []) in omega (arith, e))

    kept : (b : Bool) → b ≡ true → length (cond b ys (ys ++ p ∷ [])) ≤ length ys
    kept true e = omega arith
    kept false e = absurd (true_false (sym e))

    over : (b : Bool) → has_page changed p ≡ b → length (with_pages ps (with_page p ys)) ≤ length (with_page p ys) + pages_needed ps changed →
        length (with_pages ps (with_page p ys)) ≤ length ys + length (cond (not b) (p ∷ filter (λ page. not (has_page changed page)) ps) (filter (λ page. not (has_page changed page)) ps))
    over true e later = (let k : length (with_page p ys) ≤ length ys = kept (has_page ys p) (h.0 e) in omega (arith, later, k))
    over false e later = (let k : length (with_page p ys) ≤ length ys + 1 = put (has_page ys p) in omega (arith, later, k))

within_has : (size : ℕ) (changed : List ℕ) (p : ℕ) → p < pages_of size → has_page changed p ≡ true → has_page (pages_within size changed) p ≡ true
within_has size changed p inside h = over (has_page (pages_within size changed) p) refl
  where
    clash : nat_lt (page_bytes * p) size ≡ false → ⊥
    clash e = (let low : page_bytes * p < size = page_there size p inside in grind (arith, nat_tests))

    over : (b : Bool) → has_page (pages_within size changed) p ≡ b → b ≡ true
    over true e = refl
    over false e = absurd (clash (passed_over (λ (q : ℕ). nat_lt (page_bytes * q) size) changed p h e))

all_there : (size : ℕ) (changed pages : List ℕ) → AreBelow (pages_of size) pages → AreThere changed (pages_within size changed) pages
all_there size changed [] h = tt
all_there size changed (p ∷ ps) h = ((λ k. within_has size changed p h.0 k), all_there size changed ps h.1)

-- an effect changes as many pages more as it needs, at most
pub after_length : (size : ℕ) (changed pages : List ℕ) → AreBelow (pages_of size) pages → length (with_pages pages (pages_within size changed)) ≤ length changed + pages_needed pages changed
after_length size changed pages below =
    let a : length (with_pages pages (pages_within size changed)) ≤ length (pages_within size changed) + pages_needed pages changed = needed_more changed (pages_within size changed) pages (all_there size changed pages below) in
    let b : length (pages_within size changed) ≤ length changed = filter_length (λ (q : ℕ). nat_lt (page_bytes * q) size) changed in
    omega (arith, a, b)
