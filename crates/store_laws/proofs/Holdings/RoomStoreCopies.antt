-- The pages of a group's copies on a disk, by inode.
use Rattle.std.proofs.Common.{◌≡◌, ℕ, ◌+◌, ◌*◌, ◌/◌, ◌%◌, ◌==◌, ◌<◌, Bool, true, false, ◌&&◌, cond, List, [], ◌∷◌, length, Option, Some, None, refl, sym, ap, ◌∙◌, subst, arith}
use Rattle.std.proofs.lemmas.Nat.{div-add-mod'}
use Rattle.std.specs.List.{AllByRecursion}
use Rattle.std.specs.Option.{option_map}
use Rattle.tree_laws.proofs.of_plain_facts.Numbers.{equal_self, equal as test_same}
use Rattle.tree_laws.proofs.of_plain_facts.Options.{none_some, some_same}
use Rattle.tree_laws.proofs.of_plain_facts.Tests.{true_false}
use Rattle.locus_ids.specs.declared.config.Config.{Config}
use Rattle.locus_ids.specs.declared.ids.FileId.{FileId}
use Rattle.locus_ids.specs.Sizes.{inode_span}
use Rattle.file_content.specs.Pages.{pages_of}
use Rattle.site_laws.specs.of_role_steps.Own.{Every}
use Rattle.site_laws.specs.of_role_steps.Storage.{content_of, copy_key, copy_of, copy_pages}
use Rattle.site_laws.specs.of_role_steps.Tables.{row, total}
use Rattle.site_laws.specs.of_role_steps.Views.{Store, file_key}
use Rattle.site_laws.specs.of_role_steps.declared.copies.FileCopy.{FileCopy}
use Rattle.tree_laws.specs.of_the_run.Worlds.{Line}
use Rattle.tree_model.specs.Files.{HeldVersion, held_version}
use Rattle.tree_laws.specs.Printed.{entries}
use Rattle.tree_laws.specs.Stores.{Ascends, CopiesAreHeld, copy_for}
use Rattle.tree_laws.proofs.Orders.Standing.{At}
use Rattle.store_laws.proofs.Holdings.RoomSums.{Amount, AreSingle, amount_at, sum_of}
use Rattle.store_laws.proofs.Holdings.RoomTreeCopies.{numbers_tell, same_number}

-- ---- keys ----

abbrev IsNarrow : FileCopy → Type 0
IsNarrow x = x.file.ino < inode_span

-- the files of 16 bits have keys of their own
one_group : (a b i j : ℕ) → i < inode_span → j < inode_span → a * inode_span + i ≡ b * inode_span + j → a ≡ b
one_group a b i j p q e = omega (arith, p, q, e)

one_ino : (a b i j : ℕ) → i < inode_span → j < inode_span → a * inode_span + i ≡ b * inode_span + j → i ≡ j
one_ino a b i j p q e = omega (arith, p, q, e)

key_test : (x : FileCopy) (g i : ℕ) → IsNarrow x → i < inode_span → (copy_key x == file_key (At g i)) ≡ ((x.file.group == g) && (x.file.ino == i))
key_test x g i narrow small = over (copy_key x == file_key (At g i)) (x.file.group == g) (x.file.ino == i) refl refl refl
  where
    equal : (m n : ℕ) → m ≡ n → (m == n) ≡ true
    equal m n e = subst (λ (k : ℕ). (m == k) ≡ true) e (equal_self m)

    over : (k a b : Bool) → (copy_key x == file_key (At g i)) ≡ k → (x.file.group == g) ≡ a → (x.file.ino == i) ≡ b → k ≡ (a && b)
    over true true true e p q = refl
    over true true false e p q = absurd (true_false (sym (equal x.file.ino i (one_ino x.file.group g x.file.ino i narrow small (test_same (copy_key x) (file_key (At g i)) e))) ∙ q))
    over true false b e p q = absurd (true_false (sym (equal x.file.group g (one_group x.file.group g x.file.ino i narrow small (test_same (copy_key x) (file_key (At g i)) e))) ∙ p))
    over false true true e p q = absurd (true_false (sym (equal (copy_key x) (file_key (At g i)) (ap (λ (n : ℕ). n * inode_span + x.file.ino) (test_same x.file.group g p) ∙ ap (λ (n : ℕ). g * inode_span + n) (test_same x.file.ino i q))) ∙ e))
    over false true false e p q = refl
    over false false b e p q = refl

-- ---- each copy is found under its key ----

row_next : (k : ℕ) (x : FileCopy) (xs : List FileCopy) (b : Bool) → (copy_key x == k) ≡ b → row copy_key k (x ∷ xs) ≡ cond b (Some x) (row copy_key k xs)
row_next k x xs b e = subst (λ (a : Bool). row copy_key k (x ∷ xs) ≡ cond a (Some x) (row copy_key k xs)) e (at (copy_key x == k))
  where
    at : (a : Bool) → (elim a as (λ (y : Bool). Option FileCopy) [ true ↦ Some x | false ↦ row copy_key k xs ]) ≡ cond a (Some x) (row copy_key k xs)
    at true = refl
    at false = refl

each_found : (xs : List FileCopy) → Ascends copy_key xs → AllByRecursion (λ (x : FileCopy). row copy_key (copy_key x) xs ≡ Some x) xs
each_found [] k = tt
each_found (y ∷ ys) k = (row_next (copy_key y) y ys true (equal_self (copy_key y)), later ys k.0 (each_found ys k.1))
  where
    above : (a b : ℕ) → a < b → (x : Bool) → (a == b) ≡ x → x ≡ false
    above a b p false e = refl
    above a b p true e = (let q : a ≡ b = test_same a b e in absurd (omega (arith, p, q)))

    later : (zs : List FileCopy) → Every (λ (z : FileCopy). copy_key y < copy_key z) zs → AllByRecursion (λ (x : FileCopy). row copy_key (copy_key x) ys ≡ Some x) zs → AllByRecursion (λ (x : FileCopy). row copy_key (copy_key x) (y ∷ ys) ≡ Some x) zs
    later [] p q = tt
    later (z ∷ zs) p q = (row_next (copy_key z) y ys false (above (copy_key y) (copy_key z) p.0 (copy_key y == copy_key z) refl) ∙ q.0, later zs p.1 q.1)

-- so each copy on the disk has an inode number of 16 bits
module _ (c : Config) (trace : List Line) (me : ℕ) (s : Store) (held : CopiesAreHeld c trace me s) where
  narrow_one : (x : FileCopy) → row copy_key (copy_key x) s.copies ≡ Some x → IsNarrow x
  narrow_one x found = over (held_version c (entries trace) me file) (held.are file small)
    where
      file : FileId
      file = At (copy_key x / inode_span) (copy_key x % inode_span)

      small : (copy_key x % inode_span) < inode_span
      small = omega arith

      key_is : file_key (At (copy_key x / inode_span) (copy_key x % inode_span)) ≡ copy_key x
      key_is = div-add-mod' (copy_key x) inode_span

      there : copy_of s (At (copy_key x / inode_span) (copy_key x % inode_span)) ≡ Some x
      there = ap (λ (k : ℕ). row copy_key k s.copies) key_is ∙ found

      over : (o : Option HeldVersion) → copy_of s (At (copy_key x / inode_span) (copy_key x % inode_span)) ≡ option_map (copy_for (At (copy_key x / inode_span) (copy_key x % inode_span))) o → IsNarrow x
      over None e = absurd (none_some x (sym e ∙ there))
      over (Some v) e = subst (λ (f : FileId). f.ino < inode_span) (ap (λ (y : FileCopy). y.file) (some_same (copy_for (At (copy_key x / inode_span) (copy_key x % inode_span)) v) x (sym e ∙ there))) small

  all_narrow : (xs : List FileCopy) → AllByRecursion (λ (x : FileCopy). row copy_key (copy_key x) s.copies ≡ Some x) xs → AllByRecursion IsNarrow xs
  all_narrow [] all = tt
  all_narrow (x ∷ xs) all = (narrow_one x all.0, all_narrow xs all.1)

  pub copies_narrow : AllByRecursion IsNarrow s.copies
  copies_narrow = all_narrow s.copies (each_found s.copies held.ascends)

-- ---- amounts ----

abbrev pub store_amounts : ℕ → List FileCopy → List (Amount ℕ)
store_amounts g [] = []
store_amounts g (x ∷ xs) = cond (x.file.group == g) (record { key = x.file.ino; amount = pages_of (length x.content) } ∷ store_amounts g xs) (store_amounts g xs)

pub store_sum : (g : ℕ) (xs : List FileCopy) → total (copy_pages g) xs ≡ sum_of (store_amounts g xs)
store_sum g [] = refl
store_sum g (x ∷ xs) = at (x.file.group == g) (store_sum g xs)
  where
    at : (b : Bool) → total (copy_pages g) xs ≡ sum_of (store_amounts g xs) → cond b (pages_of (length x.content)) 0 + total (copy_pages g) xs ≡ sum_of (cond b (record { key = x.file.ino; amount = pages_of (length x.content) } ∷ store_amounts g xs) (store_amounts g xs))
    at true later = ap (λ (n : ℕ). pages_of (length x.content) + n) later
    at false later = none (total (copy_pages g) xs) ∙ later
      where
        none : (n : ℕ) → 0 + n ≡ n
        none n = omega arith

pub store_single : (g : ℕ) (xs : List FileCopy) → Ascends copy_key xs → AreSingle same_number numbers_tell (store_amounts g xs)
store_single g [] k = tt
store_single g (x ∷ xs) k = at (x.file.group == g) refl (store_single g xs k.1)
  where
    others : x.file.group ≡ g → (ys : List FileCopy) → Every (λ (y : FileCopy). copy_key x < copy_key y) ys → AllByRecursion (λ (q : Amount ℕ). (x.file.ino == q.key) ≡ false) (store_amounts g ys)
    others e [] all = tt
    others e (y ∷ ys) all = over (y.file.group == g) refl (others e ys all.1)
      where
        unlike : y.file.group ≡ g → (b : Bool) → (x.file.ino == y.file.ino) ≡ b → b ≡ false
        unlike p false q = refl
        unlike p true q = absurd (clash (copy_key x) (copy_key y) all.0 (ap (λ (n : ℕ). n * inode_span + x.file.ino) (e ∙ sym p) ∙ ap (λ (n : ℕ). y.file.group * inode_span + n) (test_same x.file.ino y.file.ino q)))
          where
            clash : (a b : ℕ) → a < b → a ≡ b → ⊥
            clash a b p q = omega (arith, p, q)

        over : (b : Bool) → (y.file.group == g) ≡ b → AllByRecursion (λ (q : Amount ℕ). (x.file.ino == q.key) ≡ false) (store_amounts g ys) → AllByRecursion (λ (q : Amount ℕ). (x.file.ino == q.key) ≡ false) (cond b (record { key = y.file.ino; amount = pages_of (length y.content) } ∷ store_amounts g ys) (store_amounts g ys))
        over true p later = (unlike (test_same y.file.group g p) (x.file.ino == y.file.ino) refl, later)
        over false p later = later

    at : (b : Bool) → (x.file.group == g) ≡ b → AreSingle same_number numbers_tell (store_amounts g xs) → AreSingle same_number numbers_tell (cond b (record { key = x.file.ino; amount = pages_of (length x.content) } ∷ store_amounts g xs) (store_amounts g xs))
    at true e later = (others (test_same x.file.group g e) xs k.0, later)
    at false e later = later

-- a number of 16 bits has the pages of its copy
pub store_at_key : (g i : ℕ) (xs : List FileCopy) → AllByRecursion IsNarrow xs → i < inode_span → amount_at same_number numbers_tell i (store_amounts g xs) ≡ pages_of (length (content_of (row copy_key (file_key (At g i)) xs)))
store_at_key g i [] narrow small = refl
store_at_key g i (x ∷ xs) narrow small = at (x.file.group == g) refl (x.file.ino == i) refl (store_at_key g i xs narrow.1 small)
  where
    abbreviated : (b : Bool) → (copy_key x == file_key (At g i)) ≡ b → pages_of (length (content_of (row copy_key (file_key (At g i)) (x ∷ xs)))) ≡ pages_of (length (content_of (cond b (Some x) (row copy_key (file_key (At g i)) xs))))
    abbreviated b e = ap (λ (o : Option FileCopy). pages_of (length (content_of o))) (row_next (file_key (At g i)) x xs b e)

    at : (a : Bool) → (x.file.group == g) ≡ a → (b : Bool) → (x.file.ino == i) ≡ b → amount_at same_number numbers_tell i (store_amounts g xs) ≡ pages_of (length (content_of (row copy_key (file_key (At g i)) xs))) →
        amount_at same_number numbers_tell i (cond a (record { key = x.file.ino; amount = pages_of (length x.content) } ∷ store_amounts g xs) (store_amounts g xs)) ≡ pages_of (length (content_of (row copy_key (file_key (At g i)) (x ∷ xs))))
    at true p true q later = ap (λ (y : Bool). cond y (pages_of (length x.content)) (amount_at same_number numbers_tell i (store_amounts g xs))) q ∙ sym (abbreviated true (key_test x g i narrow.0 small ∙ (ap (λ (y : Bool). y && (x.file.ino == i)) p ∙ q)))
    at true p false q later = ap (λ (y : Bool). cond y (pages_of (length x.content)) (amount_at same_number numbers_tell i (store_amounts g xs))) q ∙ (later ∙ sym (abbreviated false (key_test x g i narrow.0 small ∙ (ap (λ (y : Bool). y && (x.file.ino == i)) p ∙ q))))
    at false p b q later = later ∙ sym (abbreviated false (key_test x g i narrow.0 small ∙ ap (λ (y : Bool). y && (x.file.ino == i)) p))

-- a greater one has none
pub none_wide : (g i : ℕ) (xs : List FileCopy) → AllByRecursion IsNarrow xs → (i < inode_span → ⊥) → amount_at same_number numbers_tell i (store_amounts g xs) ≡ 0
none_wide g i [] narrow wide = refl
none_wide g i (x ∷ xs) narrow wide = at (x.file.group == g) (x.file.ino == i) refl (none_wide g i xs narrow.1 wide)
  where
    at : (a b : Bool) → (x.file.ino == i) ≡ b → amount_at same_number numbers_tell i (store_amounts g xs) ≡ 0 → amount_at same_number numbers_tell i (cond a (record { key = x.file.ino; amount = pages_of (length x.content) } ∷ store_amounts g xs) (store_amounts g xs)) ≡ 0
    at true true e later = absurd (wide (subst (λ (n : ℕ). n < inode_span) (test_same x.file.ino i e) narrow.0))
    at true false e later = ap (λ (y : Bool). cond y (pages_of (length x.content)) (amount_at same_number numbers_tell i (store_amounts g xs))) e ∙ later
    at false b e later = later
