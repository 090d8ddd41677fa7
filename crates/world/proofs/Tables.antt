-- Rows of tables and places of sites, after one was put or taken out.
use Rattle.std.proofs.Common.{◌≡◌, ◌≢◌, ℕ, zero, suc, ◌+◌, ◌-◌, ◌<◌, ◌≤◌, ◌==◌, min, List, [], ◌∷◌, length, set, get_or, Option, Some, None, Bool, true, false, nat_eq, refl, sym, ap, subst, ◌∙◌, arith}
use Rattle.std.specs.Prelude.{slice_get}
use Rattle.locus_ids.specs.Sizes.{sites_max}
use Rattle.std.proofs.lemmas.Bool.Decides.{nat_tests}
use Rattle.std.proofs.lemmas.List.{get_or-set_same, length-set}
use Rattle.std.proofs.lemmas.Option.{slice_get_past, slice_get-get_or}
use Rattle.role_steps.proofs.of_plain_facts.Numbers.{apart_test}
use Rattle.role_steps.proofs.Numbers.{site_found}
use Rattle.keyed_tables.specs.Rising.{Above, Rising}
use Rattle.role_steps.specs.Tables.{row, with_row, without_row}
use Rattle.role_steps.proofs.Rows.{passed_row, found_row, row_other, row_same}
use Rattle.the_run.specs.Worlds.{boot_of}
use Rattle.site_place.specs.Places.{PlaceState}
use Rattle.world.specs.Reached.{state_at, place_of, boot_at, boots_of, AreOf}

pub split : {P : Type 0} (a b : ℕ) → (a ≡ b → P) → (a ≢ b → P) → P
split {P = P} a b f g = elim (nat_eq a b) as (λ t. nat_eq a b ≡ t → P) [ true ↦ λ e. f (grind (arith, nat_tests)) | false ↦ λ e. g (grind (arith, nat_tests)) ] refl

pub either : {P : Type 0} (b : Bool) → (b ≡ true → P) → (b ≡ false → P) → P
either true f g = f refl
either false f g = g refl

-- ---- tables ----

pub put_here : {A : Type 0} (key : A → ℕ) (x : A) (k : ℕ) (xs : List A) → key x ≡ k → row key k (with_row key x xs) ≡ Some x
put_here key x k xs e = ap (λ j. row key j (with_row key x xs)) (sym e) ∙ row_same key x xs

pub put_there : {A : Type 0} (key : A → ℕ) (x : A) (k : ℕ) (xs : List A) → key x ≢ k → row key k (with_row key x xs) ≡ row key k xs
put_there key x k xs ne = row_other key x k xs (apart_test (key x) k ne)

-- a row that is found has the key
pub key_found : {A : Type 0} (key : A → ℕ) (k : ℕ) (xs : List A) (x : A) → row key k xs ≡ Some x → key x ≡ k
key_found key k [] x e = absurd (cc)
key_found key k (y ∷ ys) x e = either (key y == k)
    (λ t. let f : ◌≡◌ {A = Option _} (Some y) (Some x) = sym (found_row y (row key k ys) (key y == k) t) ∙ e in let g : key y ≡ k = grind (arith, nat_tests) in let h : y ≡ x = cc in ap key (sym h) ∙ g)
    (λ t. key_found key k ys x (sym (passed_row y (row key k ys) (key y == k) t) ∙ e))

-- no row has a key below all
pub above_none : {A : Type 0} (key : A → ℕ) (k : ℕ) (xs : List A) → Above key k xs → row key k xs ≡ None
above_none key k [] a = refl
above_none key k (y ∷ ys) a = passed_row y (row key k ys) (key y == k) (apart_test (key y) k (λ e. let l = a.0 in absurd (omega arith))) ∙ above_none key k ys a.1

above_along : {A : Type 0} (key : A → ℕ) (j k : ℕ) (xs : List A) → j ≡ k → Above key j xs → Above key k xs
above_along key j k xs e a = subst (λ (i : ℕ). Above key i xs) e a

left_out : {A : Type 0} (x y : List A) (b : Bool) → b ≡ true → ◌≡◌ {A = List A} (elim b [ true ↦ x | false ↦ y ]) x
left_out x y b e = ap (λ t. elim t [ true ↦ x | false ↦ y ]) e

left_in : {A : Type 0} (x y : List A) (b : Bool) → b ≡ false → ◌≡◌ {A = List A} (elim b [ true ↦ x | false ↦ y ]) y
left_in x y b e = ap (λ t. elim t [ true ↦ x | false ↦ y ]) e

-- a row that was taken out is found no more
pub out_here : {A : Type 0} (key : A → ℕ) (k : ℕ) (xs : List A) → Rising key xs → row key k (without_row key k xs) ≡ None
out_here key k [] r = refl
out_here key k (y ∷ ys) r = either (key y == k)
    (λ t. ap (row key k) (left_out ys (y ∷ without_row key k ys) (key y == k) t) ∙ above_none key k ys (above_along key (key y) k ys (grind (arith, nat_tests)) r.0))
    (λ t. ap (row key k) (left_in ys (y ∷ without_row key k ys) (key y == k) t) ∙ (passed_row y (row key k (without_row key k ys)) (key y == k) t ∙ out_here key k ys r.1))

-- where the first is passed over, the rest decides
pub same_rest : {A : Type 0} (y : A) (a b : Option A) (t : Bool) → a ≡ b → ◌≡◌ {A = Option A} (elim t [ true ↦ Some y | false ↦ a ]) (elim t [ true ↦ Some y | false ↦ b ])
same_rest y a b true e = refl
same_rest y a b false e = e

-- any other row is found as before
pub out_there : {A : Type 0} (key : A → ℕ) (j k : ℕ) (xs : List A) → j ≢ k → row key j (without_row key k xs) ≡ row key j xs
out_there key j k [] ne = refl
out_there key j k (y ∷ ys) ne = either (key y == k)
    (λ t. ap (row key j) (left_out ys (y ∷ without_row key k ys) (key y == k) t) ∙ sym (passed_row y (row key j ys) (key y == j) (apart_test (key y) j (λ e. let f : key y ≡ k = grind (arith, nat_tests) in ne (sym e ∙ f)))))
    (λ t. ap (row key j) (left_in ys (y ∷ without_row key k ys) (key y == k) t) ∙ same_rest y (row key j (without_row key k ys)) (row key j ys) (key y == j) (out_there key j k ys ne))

-- ---- places ----

pub state_is : (places : List PlaceState) (s at : ℕ) → s ≡ at + 1 → state_at places s ≡ slice_get places at
state_is places s at e = ap (state_at places) (let f : s ≡ suc at = omega arith in f)

pub state_read : (places : List PlaceState) (s at : ℕ) (p : PlaceState) → s ≡ at + 1 → at < length places → p ≡ get_or places at p → state_at places s ≡ Some p
state_read places s at p e l is = state_is places s at e ∙ (slice_get-get_or places at p l ∙ ap (λ y. Some y) (sym is))

pub state_none : (places : List PlaceState) (s at : ℕ) → s ≡ at + 1 → length places ≤ at → state_at places s ≡ None
state_none places s at e l = state_is places s at e ∙ slice_get_past places at l

-- the boots of the sites that there are
pub boots_end : (places : List PlaceState) (sites : ℕ) → sites ≡ min (length places) sites_max → AreOf sites (boots_of places)
boots_end places sites e = record {
  few = omega (arith, e);
  none = λ s l m. site_found (boot_at places) s (omega (arith, l)) m ∙ ap (λ o. boot_of (place_of o)) (state_none places s (s - 1) (omega (arith, l)) (omega (arith, e, l, m)));
}

pub state_put : (places : List PlaceState) (s at : ℕ) (p : PlaceState) → s ≡ at + 1 → at < length places → state_at (set places at p) s ≡ Some p
state_put places s at p e l =
    let m : at < length (set places at p) = omega (arith, length-set places at p) in
    state_is (set places at p) s at e ∙ (slice_get-get_or (set places at p) at p m ∙ ap (λ y. Some y) (get_or-set_same places at p p l))

pub state_other : (places : List PlaceState) (s t at : ℕ) (p : PlaceState) → s ≡ at + 1 → t ≢ s → state_at (set places at p) t ≡ state_at places t
state_other places s zero at p e ne = refl
state_other places s (suc t) at p e ne = other places t at (λ f. ne (omega arith)) where
  other : (xs : List PlaceState) (i j : ℕ) → i ≢ j → slice_get (set xs j p) i ≡ slice_get xs i
  other [] i j d = refl
  other (x ∷ xs) zero zero d = absurd (d refl)
  other (x ∷ xs) zero (suc j) d = refl
  other (x ∷ xs) (suc i) zero d = refl
  other (x ∷ xs) (suc i) (suc j) d = other xs i j (λ f. d (ap suc f))
