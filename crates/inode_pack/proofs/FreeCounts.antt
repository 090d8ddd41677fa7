-- How many numbers below a bound pass a test.
use Rattle.std.proofs.Common.{◌≡◌, ◌≢◌, ℕ, zero, suc, ◌+◌, ◌<◌, ◌≤◌, Bool, true, false, List, [], ◌∷◌, length, get_or, ⊎_elim, refl, sym, ap, ◌∙◌, arith}
use Rattle.std.specs.Prelude.{◌==◌, if◌then◌else◌}
use Rattle.std.proofs.lemmas.Bool.{cases_eq, eq-eqb, ne_eqb}
use Rattle.locus_ids.specs.Sizes.{pack_pages}
use Rattle.new_contents.specs.of_shadow_pages.Working.{count_below}
use Rattle.new_contents.proofs.Counting.{none_passes}
use Rattle.pack_slots.specs.Copies.{times}
use Rattle.pack_slots.proofs.PageTimes.{times_own, times_other}
use Rattle.pack_slots.proofs.NamedPages.{AreBelow}

pub none_left : (uses : List ℕ) (from p : ℕ) → length uses ≡ pack_pages → pack_pages ≤ p → ((k : ℕ) → from ≤ k → k < p → get_or uses k 0 ≢ 0)
    → count_below (λ k. get_or uses k 0 == 0) from < count_below (λ k. get_or uses k 0 == 0) (length uses) → ⊥
none_left uses from p long end none more = none_passes (λ (k : ℕ). get_or uses k 0 == 0) from p (length uses) (omega arith) (λ k low high. ne_eqb (get_or uses k 0) 0 (none k low high)) more

-- tests that differ at one number
differ_once : (f g : ℕ → Bool) (x n : ℕ) → x < n → f x ≡ true → g x ≡ false → ((p : ℕ) → p ≢ x → g p ≡ f p) → count_below g n + 1 ≡ count_below f n
differ_once f g x zero lt is isnt same = absurd (omega arith)
differ_once f g x (suc n) lt is isnt same = ⊎_elim
    (λ (e : n ≡ x).
    let passed : count_below f (suc n) ≡ count_below f n + 1 = ap (λ (b : Bool). count_below f n + (if b then 1 else 0)) (ap f e ∙ is) in
    let failed : count_below g (suc n) ≡ count_below g n + 0 = ap (λ (b : Bool). count_below g n + (if b then 1 else 0)) (ap g e ∙ isnt) in
    let rest = alike n (λ p less. same p (λ at. omega arith)) in
    omega arith)
    (λ (ne : n ≢ x).
    let here : count_below g (suc n) ≡ count_below g n + (if f n then 1 else 0) = ap (λ (b : Bool). count_below g n + (if b then 1 else 0)) (same n ne) in
    let rest = differ_once f g x n (omega arith) is isnt same in
    omega arith)
    (cases_eq n x)
  where
    alike : (m : ℕ) → ((p : ℕ) → p < m → g p ≡ f p) → count_below g m ≡ count_below f m
    alike zero h = refl
    alike (suc m) h =
        ap (λ (b : Bool). count_below g m + (if b then 1 else 0)) (h m (omega arith))
        ∙ ap (λ (k : ℕ). k + (if f m then 1 else 0)) (alike m (λ p less. h p (omega arith)))

none_named : (n : ℕ) → count_below (λ p. times p [] == 0) n ≡ n
none_named zero = refl
none_named (suc n) = let rest = none_named n in omega arith

-- each page below n is named once or not at all: how many are not
pub unnamed : (n : ℕ) (xs : List ℕ) → AreBelow n xs → ((p : ℕ) → times p xs ≤ 1) → count_below (λ p. times p xs == 0) n + length xs ≡ n
unnamed n [] all once = let none = none_named n in omega arith
unnamed n (x ∷ xs) all once =
    let own = times_own x x refl in
    let first = once x in
    let alone : times x xs ≡ 0 = omega arith in
    let one = differ_once (λ p. times p xs == 0) (λ p. times p (x ∷ xs) == 0) x n all.0 (eq-eqb (times x xs) 0 alone) (ne_eqb (times x (x ∷ xs)) 0 (λ e. omega arith))
    (λ p ne. let other = times_other p x (λ e. ne (sym e)) in let e : times p (x ∷ xs) ≡ times p xs = omega arith in ap (λ (k : ℕ). k == 0) e) in
    let rest = unnamed n xs all.1 (λ p. let h = once p in omega arith) in
    omega arith
