-- Circuits by number, and the table of those that are cut.
use Rattle.std.proofs.Common.{◌≡◌, ◌≢◌, ℕ, zero, suc, ◌+◌, ◌-◌, ◌<◌, ◌≤◌, List, [], ◌∷◌, ◌++◌, ◌⊎◌, inl, inr, length, map, reverse, filter, replicate, set, get_or, Bool, true, false, not, ◌||◌, nat_eq, refl, sym, ap, subst, ◌∙◌, arith}
use Rattle.std.proofs.lemmas.Bool.Decides.{nat_tests}
use Rattle.std.proofs.lemmas.List.{get_or-replicate, get_or-set_same, get_or-set_other, length-set, length-replicate, reverse-append, append-nil, ext_get_or}
use Rattle.std.proofs.lemmas.List.Elements.{filter-append}
use Rattle.locus_ids.specs.Sizes.{sites_max}
use Rattle.the_run.specs.of_role_steps.Views.{all_sites}
use Rattle.the_run.proofs.of_role_steps.Numbers.{site_found}
use Rattle.the_run.specs.Worlds.{CutCircuit, is_between}
use Rattle.circuits.specs.Circuits.{circuit_of, sender_on, receiver_on, is_cut_among, both_marked, is_up_among, TellsCuts, TellsUp}

-- the number of a circuit tells both of its sites
pub first_site : (a b : ℕ) → 1 ≤ a → 1 ≤ b → b ≤ sites_max → sender_on (circuit_of a b) ≡ a
first_site a b l m n = omega arith

pub second_site : (a b : ℕ) → 1 ≤ b → b ≤ sites_max → receiver_on (circuit_of a b) ≡ b
second_site a b m n = omega arith

pub none_cut : (table : List Bool) → table ≡ replicate 256 false → TellsCuts table []
none_cut table e = record {
  room = ap length e ∙ length-replicate 256 false;
  each = λ a b h i j k. ap (λ t. get_or t (circuit_of a b) false) e ∙ get_or-replicate 256 (circuit_of a b) false false (omega arith);
}

pub filter_reversed : {A : Type 0} (test : A → Bool) (xs : List A) → filter test (reverse xs) ≡ reverse (filter test xs)
filter_reversed test [] = refl
filter_reversed test (x ∷ xs) = ap (filter test) (reverse-append (x ∷ []) xs) ∙ (filter-append test (reverse xs) (x ∷ []) ∙ (ap (λ ys. ys ++ filter test (x ∷ [])) (filter_reversed test xs) ∙ last (test x) refl)) where
  last : (b : Bool) → test x ≡ b → reverse (filter test xs) ++ filter test (x ∷ []) ≡ reverse (filter test (x ∷ xs))
  last true e = rw e (sym (reverse-append (x ∷ []) (filter test xs)))
  last false e = rw e (append-nil (reverse (filter test xs)))

-- a circuit other than the one that is between a and b
apart : (a b x y : ℕ) (c : CutCircuit) → is_between a b c ≡ true → (x ≡ a → y ≡ b → ⊥) → (x ≡ b → y ≡ a → ⊥) → is_between x y c ≡ false
apart a b x y c t f g = grind (arith, nat_tests)

-- the circuit between x and y is the one between a and b, or it is another
abbrev pub Same : ℕ → ℕ → ℕ → ℕ → Type 0
Same a b x y = ((x ≡ a) × (y ≡ b)) ⊎ ((x ≡ b) × (y ≡ a))

alike : (a b x y : ℕ) (c : CutCircuit) → Same a b x y → is_between x y c ≡ is_between a b c
alike a b x y c (inl s) = rw (s.0, s.1) refl
alike a b x y c (inr s) = rw (s.0, s.1) (grind arith)

pub mended_same : (a b x y : ℕ) (cuts : List CutCircuit) → Same a b x y → is_cut_among (filter (λ c. not (is_between a b c)) cuts) x y ≡ false
mended_same a b x y [] s = refl
mended_same a b x y (c ∷ cs) s = here (is_between a b c) refl (mended_same a b x y cs s) where
  here : (t : Bool) → is_between a b c ≡ t → is_cut_among (filter (λ c. not (is_between a b c)) cs) x y ≡ false → is_cut_among (filter (λ c. not (is_between a b c)) (c ∷ cs)) x y ≡ false
  here true e rest = rw e rest
  here false e rest = rw (e, alike a b x y c s ∙ e) rest

pub mended_other : (a b x y : ℕ) (cuts : List CutCircuit) → (x ≡ a → y ≡ b → ⊥) → (x ≡ b → y ≡ a → ⊥) → is_cut_among (filter (λ c. not (is_between a b c)) cuts) x y ≡ is_cut_among cuts x y
mended_other a b x y [] f g = refl
mended_other a b x y (c ∷ cs) f g = here (is_between a b c) refl (mended_other a b x y cs f g) where
  here : (t : Bool) → is_between a b c ≡ t → is_cut_among (filter (λ c. not (is_between a b c)) cs) x y ≡ is_cut_among cs x y → is_cut_among (filter (λ c. not (is_between a b c)) (c ∷ cs)) x y ≡ is_cut_among (c ∷ cs) x y
  here true e rest = rw (e, apart a b x y c e f g) rest
  here false e rest = rw e (ap (λ t. is_between x y c || t) rest)

split : {P : Type 0} (a b : ℕ) → (a ≡ b → P) → (a ≢ b → P) → P
split {P = P} a b f g = elim (nat_eq a b) as (λ t. nat_eq a b ≡ t → P) [ true ↦ λ e. f (grind (arith, nat_tests)) | false ↦ λ e. g (grind (arith, nat_tests)) ] refl

put : {A : Type 0} (xs : List A) (i j : ℕ) (v d : A) → i < length xs → j ≡ i → get_or (set xs i v) j d ≡ v
put xs i j v d l e = ap (λ y. get_or (set xs i v) y d) e ∙ get_or-set_same xs i v d l

pub mend_tells : (a b : ℕ) (table : List Bool) (cuts : List CutCircuit) → 1 ≤ a → a ≤ sites_max → 1 ≤ b → b ≤ sites_max → TellsCuts table cuts → TellsCuts (both_marked table a b false) (filter (λ c. not (is_between a b c)) cuts)
mend_tells a b table cuts la ha lb hb t = record {
  room = length-set (set table i false) j false ∙ (length-set table i false ∙ t.room);
  each = λ x y lx hx ly hy. split (circuit_of x y) j
      (λ e. put (set table i false) j (circuit_of x y) false false long e ∙ sym (mended_same a b x y cuts (inr (omega arith, omega arith))))
      (λ e. get_or-set_other (set table i false) j (circuit_of x y) false false e ∙ split (circuit_of x y) i
      (λ f. put table i (circuit_of x y) false false first f ∙ sym (mended_same a b x y cuts (inl (omega arith, omega arith))))
      (λ f. get_or-set_other table i (circuit_of x y) false false f ∙ (t.each x y lx hx ly hy ∙ sym (mended_other a b x y cuts (λ p q. f (rw (p, q) refl)) (λ p q. e (rw (p, q) refl))))));
} where
  i : ℕ
  i = circuit_of a b

  j : ℕ
  j = circuit_of b a

  first : circuit_of a b < length table
  first = let r : length table ≡ 256 = t.room in omega arith

  long : circuit_of b a < length (set table (circuit_of a b) false)
  long = let r : length table ≡ 256 = t.room in omega (arith, length-set table (circuit_of a b) false)

pub mend_is : (a b : ℕ) (table table' : List Bool) (items items' : List CutCircuit) → 1 ≤ a → a ≤ sites_max → 1 ≤ b → b ≤ sites_max → table' ≡ both_marked table a b false → items' ≡ filter (λ c. not (is_between a b c)) items → TellsCuts table (reverse items) → TellsCuts table' (reverse items')
mend_is a b table table' items items' la ha lb hb e f t =
    subst (λ y. TellsCuts y (reverse items')) (sym e) (subst (λ y. TellsCuts (both_marked table a b false) y) (filter_reversed (λ c. not (is_between a b c)) items ∙ ap reverse (sym f)) (mend_tells a b table (reverse items) la ha lb hb t))

-- one place more is as the function says
pub one_more : (f : ℕ → Bool) (table : List Bool) (n : ℕ) (r : Bool) → n < length table → ((i : ℕ) → i < n → get_or table i false ≡ f i) → r ≡ f n → (i : ℕ) → i < n + 1 → get_or (set table n r) i false ≡ f i
one_more f table n r l h e i m = split i n (λ q. put table n i r false l q ∙ (e ∙ ap f (sym q))) (λ q. get_or-set_other table n i r false q ∙ h i (omega arith))

pub tells_up : (cuts : List CutCircuit) (boots : List ℕ) (table : List Bool) → length table ≡ 256 → ((i : ℕ) → i < 256 → get_or table i false ≡ is_up_among cuts boots (sender_on i) (receiver_on i)) → TellsUp table cuts boots
tells_up cuts boots table room h = record {
  room = room;
  each = λ a b la ha lb hb. h (circuit_of a b) (omega arith) ∙ (ap (λ x. is_up_among cuts boots x (receiver_on (circuit_of a b))) (first_site a b la lb hb) ∙ ap (λ x. is_up_among cuts boots a x) (second_site a b lb hb));
}

-- a number for each site, which is that of its site
pub of_all_sites : (f : ℕ → ℕ) (boot : List ℕ) → length boot ≡ sites_max → ((t : ℕ) → 1 ≤ t → t < sites_max + 1 → get_or boot (t - 1) 0 ≡ f t) → boot ≡ map f all_sites
of_all_sites f boot room h = ext_get_or 0 boot (map f all_sites) room at where
  at : (i : ℕ) → i < length boot → get_or boot i 0 ≡ get_or (map f all_sites) i 0
  at i l =
      let e : (i + 1) - 1 ≡ i = omega arith in
      subst (λ (k : ℕ). get_or boot k 0 ≡ get_or (map f all_sites) k 0) e (h (i + 1) (omega arith) (omega (arith, room)) ∙ sym (site_found f (i + 1) (omega arith) (omega (arith, room))))
