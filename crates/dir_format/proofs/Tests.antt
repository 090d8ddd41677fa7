-- Tests and what they tell.
use Rattle.std.proofs.Common.{◌≡◌, ℕ, ◌≤◌, Bool, true, false, not, ◌&&◌, ◌||◌, leb, List, [], ◌∷◌, refl, arith}
use Rattle.std.proofs.lemmas.Bool.{false≢true}
use Rattle.std.proofs.lemmas.Bool.Decides.{nat_tests}
use Rattle.std.specs.List.{list_all, AllByRecursion}

pub both : (a b : Bool) → (a && b) ≡ true → (a ≡ true) × (b ≡ true)
both true b h = (refl, h)
both false b h = absurd (false≢true h)

pub both_back : (a b : Bool) → a ≡ true → b ≡ true → (a && b) ≡ true
both_back true b h k = k
both_back false b h k = absurd (false≢true h)

pub not_true : (a : Bool) → not a ≡ true → a ≡ false
not_true true h = absurd (false≢true h)
not_true false h = refl

pub or_other : (a b : Bool) → (not a || b) ≡ true → a ≡ true → b ≡ true
or_other true b h k = h
or_other false b h k = absurd (false≢true k)

pub in_range : (lo hi n : ℕ) → (leb lo n && leb n hi) ≡ true → (lo ≤ n) × (n ≤ hi)
in_range lo hi n h = (grind (arith, nat_tests), grind (arith, nat_tests))

pub in_range_back : (lo hi n : ℕ) → lo ≤ n → n ≤ hi → (leb lo n && leb n hi) ≡ true
in_range_back lo hi n h k = grind (arith, nat_tests)

module _ {X : Type 0} (test : X → Bool) (P : X → Type 0) where
  -- all pass the test exactly where all have the property that it tells
  pub all_tell : ((x : X) → test x ≡ true → P x) → (xs : List X) → list_all test xs ≡ true → AllByRecursion P xs
  all_tell tells [] h = tt
  all_tell tells (x ∷ xs) h = let two = both (test x) (list_all test xs) h in (tells x two.0, all_tell tells xs two.1)

  pub all_told : ((x : X) → P x → test x ≡ true) → (xs : List X) → AllByRecursion P xs → list_all test xs ≡ true
  all_told told [] h = refl
  all_told told (x ∷ xs) h = both_back (test x) (list_all test xs) (told x h.0) (all_told told xs h.1)

pub all_weaker : {X : Type 0} {P Q : X → Type 0} → ((x : X) → P x → Q x) → (xs : List X) → AllByRecursion P xs → AllByRecursion Q xs
all_weaker weaker [] h = tt
all_weaker weaker (x ∷ xs) h = (weaker x h.0, all_weaker weaker xs h.1)
