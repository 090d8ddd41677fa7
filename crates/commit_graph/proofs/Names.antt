-- Two stamps are the same exactly where they are equal.
use Rattle.std.proofs.Common.{◌≡◌, ℕ, Bool, true, false, refl, ap, subst, arith}
use Rattle.std.proofs.lemmas.Bool.Decides.{nat_tests}
use Rattle.locus_ids.specs.declared.ids.Stamp.{Stamp}
use Rattle.commit_graph.specs.Versions.{same_stamp}

pub same_stamp_refl : (a : Stamp) → same_stamp a a ≡ true
same_stamp_refl a = grind (arith, nat_tests)

pub stamp_eq : (a b : Stamp) → a.site ≡ b.site → a.n ≡ b.n → a ≡ b
stamp_eq a b e f = ap (λ (p : ℕ × ℕ). let s : Stamp = record { site = p.0; n = p.1 } in s) (pair_eq a.site b.site a.n b.n e f) where
  pair_eq : (s t m n : ℕ) → s ≡ t → m ≡ n → ◌≡◌ {A = ℕ × ℕ} (s, m) (t, n)
  pair_eq s t m n e f = cc

pub same_stamp_eq : (a b : Stamp) → same_stamp a b ≡ true → a ≡ b
same_stamp_eq a b h = stamp_eq a b (grind (arith, nat_tests)) (grind (arith, nat_tests))

pub same_stamp_sym : (a b : Stamp) → same_stamp a b ≡ same_stamp b a
same_stamp_sym a b = by_cases (same_stamp a b) (same_stamp b a) refl refl where
  by_cases : (x y : Bool) → same_stamp a b ≡ x → same_stamp b a ≡ y → x ≡ y
  by_cases true true e f = refl
  by_cases false false e f = refl
  by_cases true false e f = let h : same_stamp b a ≡ true = subst (λ (s : Stamp). same_stamp s a ≡ true) (same_stamp_eq a b e) (same_stamp_refl a) in cc
  by_cases false true e f = let h : same_stamp a b ≡ true = subst (λ (s : Stamp). same_stamp s b ≡ true) (same_stamp_eq b a f) (same_stamp_refl b) in cc
