-- The tables of the groups that a site serves, made from the last group on.
use Rattle.std.proofs.Common.{◌≡◌, ◌≢◌, ℕ, zero, suc, ◌<◌, ◌≤◌, ◌-◌, ◌&&◌, cond, true, false, Bool, List, [], ◌∷◌, map, filter, drop, nat_lt, nat_eq, refl, ap, ◌∙◌, arith}
use Rattle.std.specs.List.{list_all}
use Rattle.std.proofs.lemmas.Bool.Decides.{nat_tests}
use Rattle.role_steps.proofs.of_plain_facts.Numbers.{differ_test, less}
use Rattle.role_steps.proofs.of_plain_facts.Tests.{both_true}
use Rattle.role_steps.specs.Tables.{with_row}
use Rattle.role_steps.specs.Views.{all_groups}
use Rattle.role_steps.specs.Adoption.{table_group}
use Rattle.role_steps.specs.Reports.{new_table}
use Rattle.role_steps.specs.declared.synchronizing.SyncTable.{SyncTable}

-- of those that pass one test, those that pass another
pub filter_both : (p q : ℕ → Bool) (xs : List ℕ) → filter p (filter q xs) ≡ filter (λ x. q x && p x) xs
filter_both p q [] = refl
filter_both p q (x ∷ xs) = elim (q x) as (λ b. filter p (cond b (x ∷ filter q xs) (filter q xs)) ≡ cond (b && p x) (x ∷ filter (λ y. q y && p y) xs) (filter (λ y. q y && p y) xs)) [
  | true ↦ elim (p x) as (λ b. cond b (x ∷ filter p (filter q xs)) (filter p (filter q xs)) ≡ cond b (x ∷ filter (λ y. q y && p y) xs) (filter (λ y. q y && p y) xs)) [
    | true ↦ ap (λ zs. x ∷ zs) (filter_both p q xs)
    | false ↦ filter_both p q xs
  ]
  | false ↦ filter_both p q xs
]

more_no : (a b : ℕ) → b < a → nat_lt a b ≡ false
more_no a b e = grind (arith, nat_tests)

front : (k x : ℕ) (xs : List ℕ) → k < x → with_row (λ s. s) k (x ∷ xs) ≡ k ∷ x ∷ xs
front k x xs l = rw (more_no x k l, differ_test x k (λ e. absurd (omega arith)), with_row) refl

-- a number below all comes first
first_of : (p : ℕ → Bool) (k : ℕ) (rest : List ℕ) → list_all (λ s. nat_lt k s) rest ≡ true → with_row (λ s. s) k (filter p rest) ≡ k ∷ filter p rest
first_of p k [] h = refl
first_of p k (x ∷ xs) h = elim (p x) as (λ b. with_row (λ s. s) k (filter p xs) ≡ k ∷ filter p xs → with_row (λ s. s) k (cond b (x ∷ filter p xs) (filter p xs)) ≡ k ∷ cond b (x ∷ filter p xs) (filter p xs)) [
  | true ↦ λ r. front k x (filter p xs) (less k x (both_true (nat_lt k x) (list_all (λ s. nat_lt k s) xs) h).0)
  | false ↦ λ r. r
] (first_of p k xs (both_true (nat_lt k x) (list_all (λ s. nat_lt k s) xs) h).1)

put_next : (p : ℕ → Bool) (k : ℕ) (rest rows : List ℕ) → list_all (λ s. nat_lt k s) rest ≡ true → p k ≡ true → rows ≡ filter p rest → with_row (λ s. s) k rows ≡ filter p (k ∷ rest)
put_next p k rest rows h t e = rw (t, e) (first_of p k rest h)

skip_next : (p : ℕ → Bool) (k : ℕ) (rest rows : List ℕ) → p k ≡ false → rows ≡ filter p rest → rows ≡ filter p (k ∷ rest)
skip_next p k rest rows f e = rw (f, e) refl

group_before : (g : ℕ) → 0 < g → g ≤ 4 → (drop (g - 1) all_groups ≡ (g - 1) ∷ drop g all_groups) × (list_all (λ s. nat_lt (g - 1) s) (drop g all_groups) ≡ true)
group_before zero a b = absurd (omega arith)
group_before (suc zero) a b = (refl, refl)
group_before (suc (suc zero)) a b = (refl, refl)
group_before (suc (suc (suc zero))) a b = (refl, refl)
group_before (suc (suc (suc (suc zero)))) a b = (refl, refl)
group_before (suc (suc (suc (suc (suc n))))) a b = absurd (omega arith)

-- one group more, from the last one on
group_put : (p : ℕ → Bool) (g : ℕ) (rows : List ℕ) → 0 < g → g ≤ 4 → p (g - 1) ≡ true → rows ≡ filter p (drop g all_groups) → with_row (λ s. s) (g - 1) rows ≡ filter p (drop (g - 1) all_groups)
group_put p g rows a b t h = rw (group_before g a b).0 (put_next p (g - 1) (drop g all_groups) rows (group_before g a b).1 t h)

group_skipped : (p : ℕ → Bool) (g : ℕ) (rows : List ℕ) → 0 < g → g ≤ 4 → p (g - 1) ≡ false → rows ≡ filter p (drop g all_groups) → rows ≡ filter p (drop (g - 1) all_groups)
group_skipped p g rows a b f h = rw (group_before g a b).0 (skip_next p (g - 1) (drop g all_groups) rows f h)

put_mapped : (k : ℕ) (xs : List ℕ) → with_row table_group (new_table k) (map new_table xs) ≡ map new_table (with_row (λ s. s) k xs)
put_mapped k [] = refl
put_mapped k (x ∷ xs) = elim (nat_lt x k) as (λ b. ◌≡◌ {A = List SyncTable} (elim b [ true ↦ new_table x ∷ with_row table_group (new_table k) (map new_table xs) | false ↦ elim (nat_eq x k) [ true ↦ new_table k ∷ map new_table xs | false ↦ new_table k ∷ new_table x ∷ map new_table xs ] ]) (map new_table (elim b [ true ↦ x ∷ with_row (λ s. s) k xs | false ↦ elim (nat_eq x k) [ true ↦ k ∷ xs | false ↦ k ∷ x ∷ xs ] ]))) [
  | true ↦ ap (λ zs. new_table x ∷ zs) (put_mapped k xs)
  | false ↦ elim (nat_eq x k) as (λ b. ◌≡◌ {A = List SyncTable} (elim b [ true ↦ new_table k ∷ map new_table xs | false ↦ new_table k ∷ new_table x ∷ map new_table xs ]) (map new_table (elim b [ true ↦ k ∷ xs | false ↦ k ∷ x ∷ xs ]))) [
    | true ↦ refl
    | false ↦ refl
  ]
]

pub table_put : (p : ℕ → Bool) (g : ℕ) (rows : List SyncTable) → 0 < g → g ≤ 4 → p (g - 1) ≡ true → rows ≡ map new_table (filter p (drop g all_groups)) → with_row table_group (new_table (g - 1)) rows ≡ map new_table (filter p (drop (g - 1) all_groups))
table_put p g rows a b t e = ap (λ xs. with_row table_group (new_table (g - 1)) xs) e ∙ (put_mapped (g - 1) (filter p (drop g all_groups)) ∙ ap (map new_table) (group_put p g (filter p (drop g all_groups)) a b t refl))

pub table_skipped : (p : ℕ → Bool) (g : ℕ) (rows : List SyncTable) → 0 < g → g ≤ 4 → p (g - 1) ≡ false → rows ≡ map new_table (filter p (drop g all_groups)) → rows ≡ map new_table (filter p (drop (g - 1) all_groups))
table_skipped p g rows a b f e = e ∙ ap (map new_table) (group_skipped p g (filter p (drop g all_groups)) a b f refl)
