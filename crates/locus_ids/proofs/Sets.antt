-- What the bits of a number say of a set of sites.
use Rattle.std.proofs.Common.{ℕ, zero, suc, ◌≡◌, ◌≢◌, ◌-◌, ◌*◌, ◌^◌, ◌==◌, ◌&&◌, ◌||◌, not, ◌≤◌, ◌<◌, false, min, max, bit_and, refl, ap, ◌∙◌, arith, nat_eq, inl, inr}
use Rattle.std.specs.Int.{bit_at}
use Rattle.std.proofs.lemmas.Bool.Decides.{nat_tests, eqb_tells}
use Rattle.std.proofs.lemmas.Bool.{cases_lt}
use Rattle.std.proofs.lemmas.Nat.{pow_pos}
use Rattle.std.proofs.lemmas.Nat.Bits.{bit_at_and, bit_at_or, bit_at-lt, bit_at-pow_same, bit_at-pow_other, bit_at_not, bit_at_above, and_pow, same_from_bits}
use Rattle.std.proofs.Math.Pow.{pow-lt}
use mir.Syntax.{w16}
use Rattle.locus_ids.specs.declared.sites.Sites.{Sites}
use Rattle.locus_ids.specs.Sizes.{sites_max, set_span}
use Rattle.locus_ids.specs.Sites.{has, with_site, without_site, both, count_to}

-- a bit times a power is zero exactly where the bit is
bit_times : (b p : ℕ) → b < 2 → 0 < p → not (nat_eq (b * p) 0) ≡ nat_eq b 1
bit_times zero p h q = grind (arith, nat_tests)
bit_times (suc zero) p h q = grind (arith, nat_tests)
bit_times (suc (suc b)) p h q = absurd (omega arith)

-- the test of a bit by a mask
pub masked : (n k : ℕ) → not (nat_eq (bit_and n (2 ^ k)) 0) ≡ nat_eq (bit_at n k) 1
masked n k = rw and_pow (bit_times (bit_at n k) (2 ^ k) (bit_at-lt n k) (pow_pos k))

either : (a b : ℕ) → a < 2 → b < 2 → (max a b == 1) ≡ (a == 1 || b == 1)
either a b p q = grind (arith, nat_tests)

each : (a b : ℕ) → a < 2 → b < 2 → (min a b == 1) ≡ (a == 1 && b == 1)
each a b p q = grind (arith, nat_tests)

other_than : (a b : ℕ) → a < 2 → b < 2 → (min a (1 - b) == 1) ≡ (a == 1 && not (b == 1))
other_than a b p q = grind (arith, nat_tests)

-- the bit of one site is that site's alone
pub bit_of_site : (site other : ℕ) → 1 ≤ site → 1 ≤ other → (bit_at (2 ^ (site - 1)) (other - 1) == 1) ≡ (other == site)
bit_of_site site other p q = elim (eqb_tells other site) [
  | inl h ↦ rw (h.0, h.1, bit_at-pow_same) refl
  | inr h ↦ let ne : other - 1 ≢ site - 1 = omega arith in rw (h.0, bit_at-pow_other (site - 1) (other - 1) ne) refl
]

pub has-with : (sites : Sites) (site other : ℕ) → 1 ≤ site → 1 ≤ other → has (with_site sites site) other ≡ (has sites other || other == site)
has-with sites site other p q =
    rw bit_at_or
    (either (bit_at sites.0 (other - 1)) (bit_at (2 ^ (site - 1)) (other - 1)) (bit_at-lt sites.0 (other - 1)) (bit_at-lt (2 ^ (site - 1)) (other - 1))
    ∙ ap (λ b. bit_at sites.0 (other - 1) == 1 || b) (bit_of_site site other p q))

-- a mask without one bit, as a test of a bit
mask_at : (k i : ℕ) → k < sites_max → i < sites_max → bit_at (set_span - 1 - 2 ^ k) i ≡ 1 - bit_at (2 ^ k) i
mask_at k i p q = bit_at_not w16 (2 ^ k) i (pow-lt p) q

nothing : (b : ℕ) → (min 0 b == 1) ≡ false
nothing b = grind (arith, nat_tests)

pub has-without : (sites : Sites) (site other : ℕ) → sites.0 < set_span → 1 ≤ site → site ≤ sites_max → 1 ≤ other → has (without_site sites site) other ≡ (has sites other && not (other == site))
has-without sites site other f p r q = elim (cases_lt sites_max other) [
  | inr h ↦
      rw bit_at_and
      (rw (mask_at (site - 1) (other - 1) (omega arith) (omega arith))
      (other_than (bit_at sites.0 (other - 1)) (bit_at (2 ^ (site - 1)) (other - 1)) (bit_at-lt sites.0 (other - 1)) (bit_at-lt (2 ^ (site - 1)) (other - 1))
      ∙ ap (λ b. bit_at sites.0 (other - 1) == 1 && not b) (bit_of_site site other p q)))
  | inl h ↦
      let none : bit_at sites.0 (other - 1) ≡ 0 = bit_at_above sites.0 sites_max (other - 1) f (omega arith) in
      rw bit_at_and (rw none (nothing (bit_at (set_span - 1 - 2 ^ (site - 1)) (other - 1))))
]

pub has-both : (a b : Sites) (site : ℕ) → has (both a b) site ≡ (has a site && has b site)
has-both a b site = rw bit_at_and (each (bit_at a.0 (site - 1)) (bit_at b.0 (site - 1)) (bit_at-lt a.0 (site - 1)) (bit_at-lt b.0 (site - 1)))

same_bit : (a b : ℕ) → a < 2 → b < 2 → (a == 1) ≡ (b == 1) → a ≡ b
same_bit a b p q h = grind (arith, nat_tests)

-- a set is the sites that it has
pub same_sites : (a b : Sites) → ((site : ℕ) → 1 ≤ site → has a site ≡ has b site) → a ≡ b
same_sites a b h =
    let sites_of : ℕ → Sites = λ n. record { 0 = n } in
    ap sites_of
    (same_from_bits a.0 b.0
    (λ i.
    let e : suc i - 1 ≡ i = omega arith in
    same_bit (bit_at a.0 i) (bit_at b.0 i) (bit_at-lt a.0 i) (bit_at-lt b.0 i) (rw e at (h (suc i) (omega arith)))))

pub count_to-most : (sites : Sites) (n : ℕ) → count_to sites n ≤ n
count_to-most sites zero = omega arith
count_to-most sites (suc n) = let h = count_to-most sites n in grind (arith, nat_tests)
