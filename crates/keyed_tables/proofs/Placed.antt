-- Places of keys, and what a table in the order of coming has at them.
use Rattle.std.proofs.Common.{◌≡◌, ℕ, suc, ◌+◌, ◌-◌, ◌<◌, ◌≤◌, List, [], ◌∷◌, ◌++◌, length, map, set, Option, Some, None, slice_get, get_or, Bool, true, false, nat_eq, refl, sym, ap, ◌∙◌, subst, arith}
use Rattle.std.proofs.lemmas.Bool.Decides.{nat_tests}
use Rattle.std.specs.Option.{is_some}
use Rattle.std.proofs.lemmas.Option.{slice_get-get_or}
use Rattle.std.proofs.lemmas.List.{length-map}
use Rattle.role_steps.proofs.of_plain_facts.Options.{some_same}
use Rattle.role_steps.specs.Tables.{row, with_row, with_latest}
use Rattle.role_steps.proofs.Rows.{row_same, row_other}
use Rattle.keyed_tables.specs.Places.{place_from, place_of, slot_key, slot_place}
use Rattle.keyed_tables.specs.declared.index.Slot.{Slot}

no_some : {B : Type 0} (a : ℕ) → ◌≡◌ {A = Option ℕ} None (Some a) → B
no_some a e = absurd (cc)

some_no : {B : Type 0} (a : ℕ) → ◌≡◌ {A = Option ℕ} (Some a) None → B
some_no a e = absurd (cc)

not_some : (o : Option ℕ) → is_some o ≡ false → o ≡ None
not_some None e = refl
not_some (Some p) e = absurd (cc)

none_is_some : {B : Type 0} (o : Option ℕ) → o ≡ None → is_some o ≡ true → B
none_is_some None e h = absurd (cc)
none_is_some (Some p) e h = absurd (cc)

-- a place is one of the list's
pub place_within : (k n : ℕ) (ks : List ℕ) (p : ℕ) → place_from k n ks ≡ Some p → (n ≤ p) × (p < n + length ks)
place_within k n [] p e = no_some p e
place_within k n (x ∷ ks) p e = elim (nat_eq x k) as (λ b. ◌≡◌ {A = Option ℕ} (elim b [ true ↦ Some n | false ↦ place_from k (n + 1) ks ]) (Some p) → (n ≤ p) × (p < n + suc (length ks))) [
  | true ↦ λ f. (let s : n ≡ p = some_same n p f in (omega arith, omega arith))
  | false ↦ λ f. (let h = place_within k (n + 1) ks p f in (omega arith, omega arith))
] e

pub place_within_all : (k : ℕ) (ks : List ℕ) (p : ℕ) → place_of k ks ≡ Some p → p < length ks
place_within_all k ks p e = let h = place_within k 0 ks p e in omega arith

-- ---- one more key, after all others ----

abbrev pub or_last : Option ℕ → Bool → ℕ → Option ℕ
or_last (Some p) b m = Some p
or_last None true m = Some m
or_last None false m = None

pub place_push : (k x n : ℕ) (ks : List ℕ) → place_from k n (ks ++ x ∷ []) ≡ or_last (place_from k n ks) (nat_eq x k) (n + length ks)
place_push k x n [] = elim (nat_eq x k) as (λ b. ◌≡◌ {A = Option ℕ} (elim b [ true ↦ Some n | false ↦ None ]) (or_last None b (n + 0))) [
  | true ↦ ap (λ m. Some m) (omega arith)
  | false ↦ refl
]
place_push k x n (y ∷ ks) = elim (nat_eq y k) as (λ b. ◌≡◌ {A = Option ℕ} (elim b [ true ↦ Some n | false ↦ place_from k (n + 1) (ks ++ x ∷ []) ]) (or_last (elim b [ true ↦ Some n | false ↦ place_from k (n + 1) ks ]) (nat_eq x k) (n + suc (length ks)))) [
  | true ↦ refl
  | false ↦ place_push k x (n + 1) ks ∙ ap (or_last (place_from k (n + 1) ks) (nat_eq x k)) (omega arith)
]

-- ---- an index stays one ----

abbrev pub IsIndex : List Slot → List ℕ → Type 0
IsIndex slots keys = (k : ℕ) → slot_place (row slot_key k slots) ≡ place_of k keys

kept_place : (a b : Option ℕ) (m : ℕ) → a ≡ b → a ≡ or_last b false m
kept_place a None m e = e
kept_place a (Some p) m e = e

pub index_new : (slots : List Slot) (keys : List ℕ) (key place : ℕ) → IsIndex slots keys → is_some (place_of key keys) ≡ false → place ≡ length keys → IsIndex (with_row slot_key (record { key = key; place = place }) slots) (keys ++ key ∷ [])
index_new slots keys key place h none last k = elim (nat_eq key k) as (λ b. nat_eq key k ≡ b → slot_place (row slot_key k (with_row slot_key s slots)) ≡ place_of k (keys ++ key ∷ [])) [
  | true ↦ λ e. (let same : key ≡ k = (grind (arith, nat_tests)) in here same e)
  | false ↦ λ e. ap slot_place (row_other slot_key s k slots e) ∙ (kept_place (slot_place (row slot_key k slots)) (place_of k keys) (0 + length keys) (h k) ∙ (ap (λ b. or_last (place_of k keys) b (0 + length keys)) (sym e) ∙ sym (place_push k key 0 keys)))
] refl where
  s : Slot
  s = record { key = key; place = place }

  absent : place_of key keys ≡ None
  absent = not_some (place_of key keys) none

  here : key ≡ k → nat_eq key k ≡ true → slot_place (row slot_key k (with_row slot_key s slots)) ≡ place_of k (keys ++ key ∷ [])
  here same e =
      let found : row slot_key key (with_row slot_key s slots) ≡ Some s = row_same slot_key s slots in
      let pushed = place_push k key 0 keys in
      let there : ◌≡◌ {A = Option ℕ} (Some place) (Some (0 + length keys)) = ap (λ m. Some m) (omega arith) in
      ap (λ j. slot_place (row slot_key j (with_row slot_key s slots))) (sym same)
      ∙ (ap slot_place found
      ∙ (there
      ∙ (ap (λ o. or_last o true (0 + length keys)) (sym (ap (λ j. place_of j keys) (sym same) ∙ absent))
      ∙ (ap (λ b. or_last (place_of k keys) b (0 + length keys)) (sym e) ∙ sym pushed))))

pub index_old : (slots : List Slot) (keys : List ℕ) (key : ℕ) → IsIndex slots keys → is_some (place_of key keys) ≡ true → IsIndex slots (keys ++ key ∷ [])
index_old slots keys key h found k = h k ∙ (stays (place_of k keys) refl ∙ sym (place_push k key 0 keys)) where
  stays : (o : Option ℕ) → place_of k keys ≡ o → o ≡ or_last o (nat_eq key k) (0 + length keys)
  stays (Some p) e = refl
  stays None e = elim (nat_eq key k) as (λ b. nat_eq key k ≡ b → ◌≡◌ {A = Option ℕ} None (or_last None b (0 + length keys))) [
    | true ↦ λ t. (let same : key ≡ k = (grind (arith, nat_tests)) in none_is_some (place_of k keys) e (ap (λ j. is_some (place_of j keys)) (sym same) ∙ found))
    | false ↦ λ t. refl
  ] refl

-- ---- rows at their places ----

pub latest_row : {A : Type 0} (key : A → ℕ) (k n : ℕ) (xs : List A) (p : ℕ) → place_from k n (map key xs) ≡ Some p → row key k xs ≡ slice_get xs (p - n)
latest_row key k n [] p e = no_some p e
latest_row {A = A} key k n (x ∷ xs) p e = elim (nat_eq (key x) k) as (λ b. ◌≡◌ {A = Option ℕ} (elim b [ true ↦ Some n | false ↦ place_from k (n + 1) (map key xs) ]) (Some p) → ◌≡◌ {A = Option A} (elim b [ true ↦ Some x | false ↦ row key k xs ]) (slice_get (x ∷ xs) (p - n))) [
  | true ↦ λ f. (let s : n ≡ p = some_same n p f in let z : p - n ≡ 0 = omega arith in sym (ap (slice_get (x ∷ xs)) z))
  | false ↦ λ f. (let h = place_within k (n + 1) (map key xs) p f in let z : p - n ≡ suc (p - (n + 1)) = omega arith in latest_row key k (n + 1) xs p f ∙ sym (ap (slice_get (x ∷ xs)) z))
] e

pub latest_none : {A : Type 0} (key : A → ℕ) (k n : ℕ) (xs : List A) → place_from k n (map key xs) ≡ None → row key k xs ≡ None
latest_none key k n [] e = refl
latest_none {A = A} key k n (x ∷ xs) e = elim (nat_eq (key x) k) as (λ b. ◌≡◌ {A = Option ℕ} (elim b [ true ↦ Some n | false ↦ place_from k (n + 1) (map key xs) ]) None → ◌≡◌ {A = Option A} (elim b [ true ↦ Some x | false ↦ row key k xs ]) None) [
  | true ↦ λ f. some_no n f
  | false ↦ λ f. latest_none key k (n + 1) xs f
] e

pub latest_set : {A : Type 0} (key : A → ℕ) (x : A) (n : ℕ) (xs : List A) (p : ℕ) → place_from (key x) n (map key xs) ≡ Some p → with_latest key x xs ≡ set xs (p - n) x
latest_set key x n [] p e = no_some p e
latest_set {A = A} key x n (y ∷ ys) p e = elim (nat_eq (key y) (key x)) as (λ b. ◌≡◌ {A = Option ℕ} (elim b [ true ↦ Some n | false ↦ place_from (key x) (n + 1) (map key ys) ]) (Some p) → ◌≡◌ {A = List A} (elim b [ true ↦ x ∷ ys | false ↦ y ∷ with_latest key x ys ]) (set (y ∷ ys) (p - n) x)) [
  | true ↦ λ f. (let s : n ≡ p = some_same n p f in let z : p - n ≡ 0 = omega arith in sym (ap (λ i. set (y ∷ ys) i x) z))
  | false ↦ λ f. (let h = place_within (key x) (n + 1) (map key ys) p f in let z : p - n ≡ suc (p - (n + 1)) = omega arith in ap (λ zs. y ∷ zs) (latest_set key x (n + 1) ys p f) ∙ sym (ap (λ i. set (y ∷ ys) i x) z))
] e

-- a row in place of the one with its key leaves all keys as they are
pub latest_keys : {A : Type 0} (key : A → ℕ) (x : A) (n : ℕ) (xs : List A) (p : ℕ) → place_from (key x) n (map key xs) ≡ Some p → map key xs ≡ map key (set xs (p - n) x)
latest_keys key x n [] p e = no_some p e
latest_keys key x n (y ∷ ys) p e = elim (nat_eq (key y) (key x)) as (λ b. nat_eq (key y) (key x) ≡ b → ◌≡◌ {A = Option ℕ} (elim b [ true ↦ Some n | false ↦ place_from (key x) (n + 1) (map key ys) ]) (Some p) → key y ∷ map key ys ≡ map key (set (y ∷ ys) (p - n) x)) [
  | true ↦ λ t f. (let s : n ≡ p = some_same n p f in let z : p - n ≡ 0 = omega arith in let same : key y ≡ key x = (grind (arith, nat_tests)) in ap (λ k. k ∷ map key ys) same ∙ sym (ap (λ i. map key (set (y ∷ ys) i x)) z))
  | false ↦ λ t f. (let h = place_within (key x) (n + 1) (map key ys) p f in let z : p - n ≡ suc (p - (n + 1)) = omega arith in ap (λ ks. key y ∷ ks) (latest_keys key x (n + 1) ys p f) ∙ sym (ap (λ i. map key (set (y ∷ ys) i x)) z))
] refl e

-- ---- the same, counted from 0, in a table whose keys an index keeps ----

first_place : (p : ℕ) → p - 0 ≡ p
first_place p = omega arith

pub row_placed : {A : Type 0} (key : A → ℕ) (k : ℕ) (xs : List A) (p : ℕ) → place_of k (map key xs) ≡ Some p → (p < length xs) × (row key k xs ≡ slice_get xs p)
row_placed key k xs p e = (within, latest_row key k 0 xs p e ∙ ap (slice_get xs) (first_place p)) where
  within : p < length xs
  within = let h = place_within_all k (map key xs) p e in omega (arith, h, length-map xs key)

pub found_latest : {A : Type 0} (key : A → ℕ) (k : ℕ) (xs : List A) (keys : List ℕ) (p : ℕ) (d : A) → keys ≡ map key xs → Some p ≡ place_of k keys → d ≡ get_or xs p d → row key k xs ≡ Some d
found_latest {A = A} key k xs keys p d f e r =
    let h = row_placed key k xs p (sym (e ∙ ap (place_of k) f)) in
    h.1 ∙ (slice_get-get_or xs p d h.0 ∙ ap (λ (a : A). Some a) (sym r))

pub absent_latest : {A : Type 0} (key : A → ℕ) (k : ℕ) (xs : List A) (keys : List ℕ) → keys ≡ map key xs → None ≡ place_of k keys → row key k xs ≡ None
absent_latest key k xs keys f e = latest_none key k 0 xs (sym (e ∙ ap (place_of k) f))

at_key : {A : Type 0} (key : A → ℕ) (x : A) (k : ℕ) (xs : List A) (keys : List ℕ) (p : ℕ) → keys ≡ map key xs → k ≡ key x → Some p ≡ place_of k keys → place_from (key x) 0 (map key xs) ≡ Some p
at_key key x k xs keys p f s e = sym (e ∙ (ap (place_of k) f ∙ ap (λ j. place_of j (map key xs)) s))

pub put_latest : {A : Type 0} (key : A → ℕ) (x : A) (k : ℕ) (xs : List A) (keys : List ℕ) (p : ℕ) → keys ≡ map key xs → k ≡ key x → Some p ≡ place_of k keys → with_latest key x xs ≡ set xs p x
put_latest key x k xs keys p f s e = latest_set key x 0 xs p (at_key key x k xs keys p f s e) ∙ ap (λ i. set xs i x) (first_place p)

pub keys_latest : {A : Type 0} (key : A → ℕ) (x : A) (k : ℕ) (xs : List A) (keys : List ℕ) (p : ℕ) → keys ≡ map key xs → k ≡ key x → Some p ≡ place_of k keys → keys ≡ map key (set xs p x)
keys_latest key x k xs keys p f s e = f ∙ (latest_keys key x 0 xs p (at_key key x k xs keys p f s e) ∙ ap (λ i. map key (set xs i x)) (first_place p))

pub index_along : (slots put : List Slot) (keys pushed : List ℕ) → put ≡ slots → pushed ≡ keys → IsIndex slots keys → IsIndex put pushed
index_along slots put keys pushed e f h = subst (λ (s : List Slot). IsIndex s pushed) (sym e) (subst (λ (ks : List ℕ). IsIndex slots ks) (sym f) h)
