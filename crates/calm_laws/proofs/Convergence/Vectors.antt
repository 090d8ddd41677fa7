-- Versions above copies, and copies after a version was adopted.
use Rattle.std.proofs.Common.{Bool, List, None, Option, Some, [], ap, arith, false, inl, inr, length, nat_le, not, refl, subst, suc, sym, true, ℕ, ◌&&◌, ◌+◌, ◌<◌, ◌==◌, ◌||◌, ◌∙◌, ◌∷◌, ◌≡◌, ◌≤◌, ◌⊎◌}
use Rattle.std.proofs.lemmas.Bool.Decides.{nat_tests}
use Rattle.calm_laws.specs.Convergence.Offers.{is_above}
use Rattle.locus_ids.specs.declared.ids.FileId.{FileId}
use Rattle.tree_laws.proofs.Syncs.Orderly.{below_through}
use Rattle.role_steps.proofs.Rows.{row_other, row_same}
use Rattle.role_steps.proofs.of_plain_facts.Tests.{both_true, true_false}
use Rattle.role_steps.specs.Adoption.{copy_adopted, is_above_own}
use Rattle.role_steps.specs.Own.{Every}
use Rattle.role_steps.specs.Pulling.{ascend_from}
use Rattle.role_steps.specs.Storage.{copy_key, copy_of, with_version}
use Rattle.role_steps.specs.Tables.{row}
use Rattle.role_steps.specs.Versions.{is_below}
use Rattle.role_steps.specs.Views.{Store, file_key}
use Rattle.role_steps.specs.declared.copies.FileCopy.{FileCopy}
use Rattle.role_steps.specs.declared.pulls.Pull.{Pull}
use Rattle.version_vector.specs.Counters.{all_le}

-- ---- vectors ----

pub never_below : (v : List ℕ) → is_below v v ≡ false
never_below v = over (all_le v v)
  where
    over : (b : Bool) → b && not b ≡ false
    over true = refl
    over false = refl

pub above_is : (p : Pull) (o : Option FileCopy) → is_above_own p o ≡ is_above p.vector o
above_is p None = refl
above_is p (Some own) = refl

pub above_through : (a b : List ℕ) (o : Option FileCopy) → is_above a o ≡ true → is_below a b ≡ true → is_above b o ≡ true
above_through a b None h k = refl
above_through a b (Some own) h k = below_through own.vector a b h k

-- ---- tests ----

pub number_test : (a b : ℕ) → ((a == b) ≡ true) ⊎ ((a == b) ≡ false)
number_test a b = over (a == b)
  where
    over : (t : Bool) → (t ≡ true) ⊎ (t ≡ false)
    over true = inl refl
    over false = inr refl

pub all_true : (a b x y : Bool) → a ≡ true → b ≡ true → x ≡ false → y ≡ false → (a && (b && not (x || y))) ≡ true
all_true true true false false p q r t = refl
all_true true true false true p q r t = absurd (true_false t)
all_true true true true y p q r t = absurd (true_false r)
all_true true false x y p q r t = absurd (true_false (sym q))
all_true false b x y p q r t = absurd (true_false (sym p))

-- ---- copies after an adoption ----

pub copy_mine : (p : Pull) (own pages : List ℕ) (s : Store) (file : FileId) → file_key p.file ≡ file_key file → copy_of (with_version (copy_adopted p own) pages s) file ≡ Some (copy_adopted p own)
copy_mine p own pages s file eq = subst (λ (k : ℕ). row copy_key k (with_version (copy_adopted p own) pages s).copies ≡ Some (copy_adopted p own)) eq (row_same copy_key (copy_adopted p own) s.copies)

pub copy_other : (p : Pull) (own pages : List ℕ) (s : Store) (file : FileId) → (file_key p.file == file_key file) ≡ false → copy_of (with_version (copy_adopted p own) pages s) file ≡ copy_of s file
copy_other p own pages s file ne = row_other copy_key (copy_adopted p own) (file_key file) s.copies ne

pub copy_alike : (s : Store) (a b : FileId) → file_key a ≡ file_key b → copy_of s a ≡ copy_of s b
copy_alike s a b eq = ap (λ (k : ℕ). row copy_key k s.copies) eq

-- what is adopted is above its own copy no more
pub adopted_low : (p : Pull) (own pages : List ℕ) (s : Store) → is_above p.vector (copy_of (with_version (copy_adopted p own) pages s) p.file) ≡ false
adopted_low p own pages s = ap (is_above p.vector) (copy_mine p own pages s p.file refl) ∙ never_below p.vector

-- ---- ascending lists ----

span : (xs : List ℕ) (low high : ℕ) → ascend_from low xs ≡ true → Every (λ (x : ℕ). x < high) xs → (length xs + low ≤ high) ⊎ (xs ≡ [])
span [] low high up below = inr refl
span (x ∷ xs) low high up below = inl (over (at_least low x (both_true (nat_le low x) _ up).0) below.0 (span xs (suc x) high (both_true (nat_le low x) _ up).1 below.1))
  where
    at_least : (a b : ℕ) → nat_le a b ≡ true → a ≤ b
    at_least a b h = grind (arith, nat_tests)

    over : low ≤ x → x < high → (length xs + suc x ≤ high) ⊎ (xs ≡ []) → suc (length xs) + low ≤ high
    over le less (inl q) = omega (arith, le, less, q)
    over le less (inr e) = (let none : length xs ≡ 0 = ap length e in omega (arith, le, less, none))

-- rising numbers below a bound are no more than it
pub rising_few : (xs : List ℕ) (low high : ℕ) → ascend_from low xs ≡ true → Every (λ (x : ℕ). x < high) xs → length xs ≤ high
rising_few xs low high up below = over (span xs low high up below)
  where
    over : (length xs + low ≤ high) ⊎ (xs ≡ []) → length xs ≤ high
    over (inl le) = omega (arith, le)
    over (inr e) = subst (λ (ys : List ℕ). length ys ≤ high) (sym e) (omega arith)
