-- Tests of numbers, and what they say.
use Rattle.std.proofs.Common.{◌≡◌, ◌≢◌, ℕ, ◌==◌, ◌≤◌, ◌<◌, true, false, not, nat_lt, nat_le, nat_eq, arith}
use Rattle.std.proofs.lemmas.Bool.Decides.{nat_tests}

pub equal : (a b : ℕ) → (a == b) ≡ true → a ≡ b
equal a b e = grind (arith, nat_tests)

pub equal_test : (a b : ℕ) → a ≡ b → (a == b) ≡ true
equal_test a b e = grind (arith, nat_tests)

pub equal_self : (a : ℕ) → (a == a) ≡ true
equal_self a = grind (arith, nat_tests)

pub apart : (a b : ℕ) → (a == b) ≡ false → a ≡ b → ⊥
apart a b h e = grind (arith, nat_tests)

pub apart_test : (a b : ℕ) → (a ≡ b → ⊥) → (a == b) ≡ false
apart_test a b h = grind (arith, nat_tests)

pub same : (a b : ℕ) → nat_eq a b ≡ true → a ≡ b
same a b e = grind (arith, nat_tests)

pub same_test : (a b : ℕ) → a ≡ b → nat_eq a b ≡ true
same_test a b e = grind (arith, nat_tests)

pub differ_test : (a b : ℕ) → a ≢ b → nat_eq a b ≡ false
differ_test a b e = grind (arith, nat_tests)

pub less : (a b : ℕ) → nat_lt a b ≡ true → a < b
less a b e = grind (arith, nat_tests)

pub less_test : (a b : ℕ) → a < b → nat_lt a b ≡ true
less_test a b l = grind (arith, nat_tests)

pub not_less : (a b : ℕ) → nat_lt a b ≡ false → b ≤ a
not_less a b e = grind (arith, nat_tests)

pub not_less_test : (a b : ℕ) → b ≤ a → nat_lt a b ≡ false
not_less_test a b h = grind (arith, nat_tests)

pub at_most : (a b : ℕ) → nat_le a b ≡ true → a ≤ b
at_most a b e = grind (arith, nat_tests)

pub at_most_test : (a b : ℕ) → a ≤ b → nat_le a b ≡ true
at_most_test a b h = grind (arith, nat_tests)

pub at_most_of : (a b c : ℕ) → a ≤ b → b ≤ c → a ≤ c
at_most_of a b c h g = omega (arith, h, g)

pub above_apart : (a b : ℕ) → a < b → (b == a) ≡ false
above_apart a b lt = grind (arith, nat_tests)

pub not_zero : (a : ℕ) → not (a == 0) ≡ true → a ≢ 0
not_zero a h = grind (arith, nat_tests)

pub not_zero_test : (a : ℕ) → a ≢ 0 → not (a == 0) ≡ true
not_zero_test a h = grind (arith, nat_tests)
