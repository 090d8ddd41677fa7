-- Tables whose rows come from several inodes and packs: each finds its own rows.
use Rattle.std.proofs.Common.{◌≡◌, ◌≢◌, ◌⊎◌, inl, inr, ⊎_elim, ℕ, zero, suc, ◌+◌, ◌*◌, ◌≤◌, ◌<◌, ◌==◌, Bool, true, false, List, [], ◌∷◌, ◌++◌, Option, None, Some, refl, sym, ap, ◌∙◌, arith}
use Rattle.std.specs.Option.{option_map}
use Rattle.std.proofs.lemmas.Bool.{cases_lt, cases_eq}
use Rattle.std.proofs.lemmas.Bool.Decides.{nat_tests}
use Rattle.role_steps.proofs.of_plain_facts.Numbers.{less_test, not_less_test, equal_test as same}
use Rattle.locus_ids.specs.Sizes.{inode_span}
use Rattle.pack_slots.specs.of_inode_switch.View.{Version}
use Rattle.role_steps.specs.Tables.{row, with_row}
use Rattle.role_steps.specs.Storage.{copy_key}
use Rattle.role_steps.specs.declared.copies.FileCopy.{FileCopy}
use Rattle.site_packs.specs.Copies.{copy_in, with_version, copies_from}
use Rattle.site_packs.proofs.Fields.{key_of}

-- the keys of all copies are in this range
abbrev pub Between : ℕ → ℕ → List FileCopy → Type 0
Between low high [] = Unit {0}
Between low high (x ∷ xs) = (low ≤ copy_key x) × (copy_key x < high) × Between low high xs

pub wider : (low high lower higher : ℕ) → lower ≤ low → high ≤ higher → (xs : List FileCopy) → Between low high xs → Between lower higher xs
wider low high lower higher under over [] in_range = tt
wider low high lower higher under over (x ∷ xs) in_range = let a = in_range.0 in let b = in_range.1 in (omega arith, omega arith, wider low high lower higher under over xs in_range.2)

pub both_between : (low high : ℕ) (xs ys : List FileCopy) → Between low high xs → Between low high ys → Between low high (xs ++ ys)
both_between low high [] ys one two = two
both_between low high (x ∷ xs) ys one two = (one.0, one.1, both_between low high xs ys one.2 two)

-- ---- row ----

passes : {A : Type 0} (x : A) (rest : Option A) (b : Bool) → b ≡ false → ◌≡◌ {A = Option A} (elim b [ true ↦ Some x | false ↦ rest ]) rest
passes x rest true e = absurd (cc)
passes x rest false e = refl

finds : {A : Type 0} (x : A) (rest : Option A) (b : Bool) → b ≡ true → ◌≡◌ {A = Option A} (elim b [ true ↦ Some x | false ↦ rest ]) (Some x)
finds x rest true e = refl
finds x rest false e = absurd (cc)

differ : (a b : ℕ) → (a < b) ⊎ (b < a) → (a == b) ≡ false
differ a b h = grind (arith, nat_tests)

-- a key outside the range finds nothing
pub row_outside : (low high k : ℕ) → (k < low) ⊎ (high ≤ k) → (xs : List FileCopy) → Between low high xs → row copy_key k xs ≡ None
row_outside low high k out [] in_range = refl
row_outside low high k out (x ∷ xs) in_range =
    let a = in_range.0 in
    let b = in_range.1 in
    passes x (row copy_key k xs) (copy_key x == k) (differ (copy_key x) k (⊎_elim (λ (lt : k < low). inr (omega arith)) (λ (le : high ≤ k). inl (omega arith)) out))
    ∙ row_outside low high k out xs in_range.2

pub row_right : (k : ℕ) (xs ys : List FileCopy) → row copy_key k xs ≡ None → row copy_key k (xs ++ ys) ≡ row copy_key k ys
row_right k [] ys none = refl
row_right k (x ∷ xs) ys none = (elim (copy_key x == k) as (λ b. ◌≡◌ {A = Option FileCopy} (elim b [ true ↦ Some x | false ↦ row copy_key k xs ]) None → ◌≡◌ {A = Option FileCopy} (elim b [ true ↦ Some x | false ↦ row copy_key k (xs ++ ys) ]) (row copy_key k ys)) [
  | true ↦ λ e. absurd (cc)
  | false ↦ λ e. row_right k xs ys e
]) none

pub row_left : (k : ℕ) (xs ys : List FileCopy) → row copy_key k ys ≡ None → row copy_key k (xs ++ ys) ≡ row copy_key k xs
row_left k [] ys none = none
row_left k (x ∷ xs) ys none = elim (copy_key x == k) as (λ b. ◌≡◌ {A = Option FileCopy} (elim b [ true ↦ Some x | false ↦ row copy_key k (xs ++ ys) ]) (elim b [ true ↦ Some x | false ↦ row copy_key k xs ])) [
  | true ↦ refl
  | false ↦ row_left k xs ys none
]

-- ---- with_row ----

abbrev put : FileCopy → FileCopy → List FileCopy → Bool → Bool → List FileCopy
put x y ys before same = elim before [ true ↦ y ∷ with_row copy_key x ys | false ↦ elim same [ true ↦ x ∷ ys | false ↦ x ∷ y ∷ ys ] ]

put_after : (x y : FileCopy) (ys : List FileCopy) → copy_key y < copy_key x → with_row copy_key x (y ∷ ys) ≡ y ∷ with_row copy_key x ys
put_after x y ys lt = ap (λ (b : Bool). put x y ys b (copy_key y == copy_key x)) (less_test (copy_key y) (copy_key x) lt)

put_here : (x y : FileCopy) (ys : List FileCopy) → copy_key y ≡ copy_key x → with_row copy_key x (y ∷ ys) ≡ x ∷ ys
put_here x y ys e = (λ i. put x y ys (not_less_test (copy_key y) (copy_key x) (omega arith) i) (same (copy_key y) (copy_key x) e i))

put_before : (x y : FileCopy) (ys : List FileCopy) → copy_key x < copy_key y → with_row copy_key x (y ∷ ys) ≡ x ∷ y ∷ ys
put_before x y ys lt = (λ i. put x y ys (not_less_test (copy_key y) (copy_key x) (omega arith) i) (differ (copy_key y) (copy_key x) (inr lt) i))

-- it stands before all of a range above it
pub put_first : (low high : ℕ) (x : FileCopy) → copy_key x < low → (ys : List FileCopy) → Between low high ys → with_row copy_key x ys ≡ x ∷ ys
put_first low high x lt [] in_range = refl
put_first low high x lt (y ∷ ys) in_range = let a = in_range.0 in put_before x y ys (omega arith)

-- and after all of a range below it
pub put_behind : (low high : ℕ) (x : FileCopy) → high ≤ copy_key x → (xs ys : List FileCopy) → Between low high xs → with_row copy_key x (xs ++ ys) ≡ xs ++ with_row copy_key x ys
put_behind low high x le [] ys in_range = refl
put_behind low high x le (y ∷ xs) ys in_range = let b = in_range.1 in put_after x y (xs ++ ys) (omega arith) ∙ ap (λ (l : List FileCopy). y ∷ l) (put_behind low high x le xs ys in_range.2)

pub put_among : (low high : ℕ) (x : FileCopy) → copy_key x < low → (xs ys : List FileCopy) → Between low high ys → with_row copy_key x (xs ++ ys) ≡ with_row copy_key x xs ++ ys
put_among low high x lt [] ys in_range = put_first low high x lt ys in_range
put_among low high x lt (y ∷ xs) ys in_range =
    let rest = put_among low high x lt xs ys in_range in
    ⊎_elim
    (λ (before : copy_key y < copy_key x). put_after x y (xs ++ ys) before ∙ ap (λ (l : List FileCopy). y ∷ l) rest ∙ ap (λ (l : List FileCopy). l ++ ys) (sym (put_after x y xs before)))
    (λ (le : copy_key x ≤ copy_key y). ⊎_elim
    (λ (e : copy_key y ≡ copy_key x). put_here x y (xs ++ ys) e ∙ ap (λ (l : List FileCopy). l ++ ys) (sym (put_here x y xs e)))
    (λ (ne : copy_key y ≢ copy_key x). put_before x y (xs ++ ys) (omega arith) ∙ ap (λ (l : List FileCopy). l ++ ys) (sym (put_before x y xs (omega arith))))
    (cases_eq (copy_key y) (copy_key x)))
    (cases_lt (copy_key y) (copy_key x))

-- ---- the copies of one pack ----

one_between : (low high group ino : ℕ) (o : Option Version) (xs : List FileCopy) → low ≤ group * inode_span + ino → group * inode_span + ino < high → Between low high xs → Between low high (with_version group ino o xs)
one_between low high group ino None xs under over rest = rest
one_between low high group ino (Some v) xs under over rest = let e = key_of group ino v in (omega arith, omega arith, rest)

pub copies_between : (group : ℕ) (held : ℕ → Option Version) (ino left : ℕ) → Between (group * inode_span + ino) (group * inode_span + ino + left) (copies_from group held ino left)
copies_between group held ino zero = tt
copies_between group held ino (suc left) =
    let rest = copies_between group held (ino + 1) left in
    one_between (group * inode_span + ino) (group * inode_span + ino + suc left) group ino (held ino) (copies_from group held (ino + 1) left) (omega arith) (omega arith)
    (wider (group * inode_span + (ino + 1)) (group * inode_span + (ino + 1) + left) (group * inode_span + ino) (group * inode_span + ino + suc left) (omega arith) (omega arith) (copies_from group held (ino + 1) left) rest)

-- the same versions give the same copies
pub copies_same : (group : ℕ) (a b : ℕ → Option Version) (ino left : ℕ) → ((i : ℕ) → ino ≤ i → i < ino + left → b i ≡ a i) → copies_from group b ino left ≡ copies_from group a ino left
copies_same group a b ino zero same = refl
copies_same group a b ino (suc left) same =
    let one = same ino (omega arith) (omega arith) in
    let rest = copies_same group a b (ino + 1) left (λ i low high. same i (omega arith) (omega arith)) in
    (λ i. with_version group ino (one i) (rest i))

found_first : (group ino k : ℕ) (o : Option Version) (xs : List FileCopy) → k ≡ group * inode_span + ino → row copy_key k xs ≡ None → row copy_key k (with_version group ino o xs) ≡ option_map (copy_in group ino) o
found_first group ino k None xs e none = none
found_first group ino k (Some v) xs e none = let key = key_of group ino v in finds (copy_in group ino v) (row copy_key k xs) (copy_key (copy_in group ino v) == k) (same (copy_key (copy_in group ino v)) k (omega arith))

passed_first : (group ino k : ℕ) (o : Option Version) (xs : List FileCopy) → group * inode_span + ino < k → row copy_key k (with_version group ino o xs) ≡ row copy_key k xs
passed_first group ino k None xs lt = refl
passed_first group ino k (Some v) xs lt = let key = key_of group ino v in passes (copy_in group ino v) (row copy_key k xs) (copy_key (copy_in group ino v) == k) (differ (copy_key (copy_in group ino v)) k (inl (omega arith)))

-- what is found of an inode is the copy that its version is
pub row_here : (group : ℕ) (held : ℕ → Option Version) (ino left i : ℕ) → ino ≤ i → i < ino + left → row copy_key (group * inode_span + i) (copies_from group held ino left) ≡ option_map (copy_in group i) (held i)
row_here group held ino zero i low high = absurd (omega arith)
row_here group held ino (suc left) i low high = ⊎_elim
    (λ (e : ino ≡ i).
    let rest = copies_between group held (ino + 1) left in
    found_first group ino (group * inode_span + i) (held ino) (copies_from group held (ino + 1) left) (omega arith)
    (row_outside (group * inode_span + (ino + 1)) (group * inode_span + (ino + 1) + left) (group * inode_span + i) (inl (omega arith)) (copies_from group held (ino + 1) left) rest)
    ∙ ap (λ (j : ℕ). option_map (copy_in group j) (held j)) e)
    (λ (ne : ino ≢ i).
    passed_first group ino (group * inode_span + i) (held ino) (copies_from group held (ino + 1) left) (omega arith)
    ∙ row_here group held (ino + 1) left i (omega arith) (omega arith))
    (cases_eq ino i)

replaces : (group ino : ℕ) (x : FileCopy) (v : Version) (o : Option Version) (xs : List FileCopy) (low high : ℕ) → copy_in group ino v ≡ x → group * inode_span + ino < low → Between low high xs
    → with_version group ino (Some v) xs ≡ with_row copy_key x (with_version group ino o xs)
replaces group ino x v None xs low high is lt in_range =
    let key = key_of group ino v in
    let own = ap copy_key is in
    ap (λ (y : FileCopy). y ∷ xs) is ∙ sym (put_first low high x (omega arith) xs in_range)
replaces group ino x v (Some w) xs low high is lt in_range =
    let key = key_of group ino v in
    let old = key_of group ino w in
    let own = ap copy_key is in
    ap (λ (y : FileCopy). y ∷ xs) is ∙ sym (put_here x (copy_in group ino w) xs (omega arith))

goes_by : (group ino : ℕ) (x : FileCopy) (o : Option Version) (xs : List FileCopy) → group * inode_span + ino < copy_key x → with_version group ino o (with_row copy_key x xs) ≡ with_row copy_key x (with_version group ino o xs)
goes_by group ino x None xs lt = refl
goes_by group ino x (Some v) xs lt = let key = key_of group ino v in sym (put_after x (copy_in group ino v) xs (omega arith))

-- where one inode has another version, its copy takes the place of the old one
pub copies_replaced : (group : ℕ) (a b : ℕ → Option Version) (ino left i : ℕ) (v : Version) (x : FileCopy) → ino ≤ i → i < ino + left → b i ≡ Some v → copy_in group i v ≡ x
    → ((j : ℕ) → ino ≤ j → j < ino + left → j ≢ i → b j ≡ a j) → copies_from group b ino left ≡ with_row copy_key x (copies_from group a ino left)
copies_replaced group a b ino zero i v x low high new is same = absurd (omega arith)
copies_replaced group a b ino (suc left) i v x low high new is same = ⊎_elim
    (λ (e : i ≡ ino).
    let rest : copies_from group b (ino + 1) left ≡ copies_from group a (ino + 1) left = copies_same group a b (ino + 1) left (λ j under over. same j (omega arith) (omega arith) (λ f. omega arith)) in
    let here : b ino ≡ Some v = ap b (sym e) ∙ new in
    let made : copy_in group ino v ≡ x = ap (λ (j : ℕ). copy_in group j v) (sym e) ∙ is in
    (λ j. with_version group ino (here j) (rest j))
    ∙ replaces group ino x v (a ino) (copies_from group a (ino + 1) left) (group * inode_span + (ino + 1)) (group * inode_span + (ino + 1) + left) made (omega arith) (copies_between group a (ino + 1) left))
    (λ (ne : i ≢ ino).
    let rest = copies_replaced group a b (ino + 1) left i v x (omega arith) (omega arith) new is (λ j under over apart. same j (omega arith) (omega arith) apart) in
    let one : b ino ≡ a ino = same ino (omega arith) (omega arith) (λ e. ne (sym e)) in
    let key : copy_key x ≡ group * inode_span + i = sym (ap copy_key is) ∙ key_of group i v in
    (λ j. with_version group ino (one j) (rest j))
    ∙ goes_by group ino x (a ino) (copies_from group a (ino + 1) left) (omega arith))
    (cases_eq i ino)
