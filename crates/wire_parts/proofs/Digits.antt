-- Components, read byte by byte.
use Rattle.std.proofs.Common.{◌≡◌, ◌≢◌, ℕ, zero, suc, ◌+◌, ◌-◌, ◌*◌, ◌<◌, ◌≤◌, true, false, eqb, leb, List, [], ◌∷◌, length, get_or, take, drop, None, Some, refl, sym, ap, ◌∙◌, arith}
use Rattle.std.specs.List.{list_all}
use Rattle.std.proofs.lemmas.Bool.{lt-leb}
use Rattle.std.proofs.lemmas.Bool.Decides.{eqb_tells}
use Rattle.std.proofs.Math.Bool.{and-false}
use Rattle.std.proofs.Math.Seq.{drop-cons}
use Rattle.std.proofs.Math.Numerals.{add-one}
use Rattle.locus_ids.specs.Sizes.{inodes_max}
use Rattle.trace_book.specs.Names.{plain_name}
use Rattle.wire_fields.specs.Components.{after_at, is_digit, number_after, is_small_from}

unequal : (a b : ℕ) → a ≢ b → eqb a b ≡ false
unequal a b ne = grind (arith, eqb_tells a b)

-- no byte is `@`
pub none_found : (bs : List ℕ) → ((k : ℕ) → k < length bs → get_or bs k 0 ≢ 64) → (plain_name bs ≡ bs) × (after_at bs ≡ None)
none_found [] h = (refl, refl)
none_found (b ∷ bs) h =
    let ne : eqb b 64 ≡ false = unequal b 64 (h 0 (omega arith)) in
    let k = none_found bs (λ i lt. h (suc i) (omega arith)) in
    (rw ne (ap (λ (t : List ℕ). b ∷ t) k.0), rw ne k.1)

-- the first `@` stands at this place
pub first_found : (bs : List ℕ) (i j : ℕ) → j ≡ suc i → i < length bs → get_or bs i 0 ≡ 64 → ((k : ℕ) → k < i → get_or bs k 0 ≢ 64) → (plain_name bs ≡ take i bs) × (after_at bs ≡ Some (drop j bs))
first_found [] i j s lt e h = absurd (omega arith)
first_found (b ∷ bs) zero j s lt e h =
    let is : eqb b 64 ≡ true = rw e refl in
    (rw is refl, rw (is, s) refl)
first_found (b ∷ bs) (suc i) j s lt e h =
    let ne : eqb b 64 ≡ false = unequal b 64 (h 0 (omega arith)) in
    let k = first_found bs i (suc i) refl (omega arith) e (λ n less. h (suc n) (omega arith)) in
    (rw ne (ap (λ (t : List ℕ). b ∷ t) k.0), rw (ne, s) k.1)

rises : (n : ℕ) (cs : List ℕ) → n ≤ number_after n cs
rises n [] = omega arith
rises n (c ∷ cs) = omega (arith, rises (10 * n + (c - 48)) cs)

pub digit_at : (ds : List ℕ) (i : ℕ) → i < length ds → drop i ds ≡ get_or ds i 0 ∷ drop (i + 1) ds
digit_at ds i lt = drop-cons ds i 0 lt ∙ ap (λ (n : ℕ). get_or ds i 0 ∷ drop n ds) (sym (add-one i))

module _ (ds : List ℕ) (i j n c : ℕ) (here : drop i ds ≡ c ∷ drop j ds) where
  pub one_more : (m : ℕ) → m ≡ 10 * n + (c - 48) → is_digit c ≡ true → is_small_from n (drop i ds) ≡ is_small_from m (drop j ds)
  one_more m e digit = rw (here, digit, e) refl

  pub too_great : (m : ℕ) → m ≡ 10 * n + (c - 48) → is_digit c ≡ true → inodes_max < m → is_small_from n (drop i ds) ≡ false
  too_great m e digit over =
      let great : leb (number_after m (drop j ds)) inodes_max ≡ false = lt-leb _ _ (omega (arith, rises m (drop j ds))) in
      one_more m e digit ∙ rw great (and-false (list_all is_digit (drop j ds)))
