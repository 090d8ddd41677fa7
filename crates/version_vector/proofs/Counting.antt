-- What the counters of joined and raised vectors are.
use Rattle.std.proofs.Common.{◌≡◌, ◌≢◌, ℕ, zero, suc, ◌+◌, ◌≤◌, ◌<◌, max, true, false, List, [], ◌∷◌, get_or, set, length, add-one, refl, ap, arith}
use Rattle.std.proofs.lemmas.Bool.Decides.{nat_tests}
use Rattle.version_vector.specs.Counters.{part, AllLe, all_le, joined, raised}

pub part-joined : (a b : List ℕ) (i : ℕ) → part (joined a b) i ≡ max (part a i) (part b i)
part-joined [] b i = omega arith
part-joined (x ∷ a) [] i = omega arith
part-joined (x ∷ a) (y ∷ b) zero = refl
part-joined (x ∷ a) (y ∷ b) (suc i) = part-joined a b i

pub part-raised_same : (v : List ℕ) (i : ℕ) → part (raised v i) i ≡ part v i + 1
part-raised_same [] zero = refl
part-raised_same [] (suc i) = part-raised_same [] i
part-raised_same (x ∷ v) zero = omega arith
part-raised_same (x ∷ v) (suc i) = part-raised_same v i

pub part-raised_other : (v : List ℕ) (i j : ℕ) → j ≢ i → part (raised v i) j ≡ part v j
part-raised_other [] zero zero h = absurd (h refl)
part-raised_other [] zero (suc j) h = refl
part-raised_other [] (suc i) zero h = refl
part-raised_other [] (suc i) (suc j) h = part-raised_other [] i j (λ e. h (ap suc e))
part-raised_other (x ∷ v) zero zero h = absurd (h refl)
part-raised_other (x ∷ v) zero (suc j) h = refl
part-raised_other (x ∷ v) (suc i) zero h = refl
part-raised_other (x ∷ v) (suc i) (suc j) h = part-raised_other v i j (λ e. h (ap suc e))

pub raised_up : (v : List ℕ) (i j : ℕ) → part v j ≤ part (raised v i) j
raised_up [] zero zero = omega arith
raised_up [] zero (suc j) = omega arith
raised_up [] (suc i) zero = omega arith
raised_up [] (suc i) (suc j) = raised_up [] i j
raised_up (x ∷ v) zero zero = omega arith
raised_up (x ∷ v) zero (suc j) = omega arith
raised_up (x ∷ v) (suc i) zero = omega arith
raised_up (x ∷ v) (suc i) (suc j) = raised_up v i j

-- the test finds the order, both ways
le_from_test : (a b : List ℕ) → all_le a b ≡ true → (i : ℕ) → part a i ≤ part b i
le_from_test [] b h i = omega arith
le_from_test (x ∷ a) [] h zero = grind (arith, nat_tests)
le_from_test (x ∷ a) [] h (suc i) = le_from_test a [] (grind (arith, nat_tests)) i
le_from_test (x ∷ a) (y ∷ b) h zero = grind (arith, nat_tests)
le_from_test (x ∷ a) (y ∷ b) h (suc i) = le_from_test a b (grind (arith, nat_tests)) i

pub AllLe-from_test : (a b : List ℕ) → all_le a b ≡ true → AllLe a b
AllLe-from_test a b h = record { each = le_from_test a b h }

test_from_le : (a b : List ℕ) → ((i : ℕ) → part a i ≤ part b i) → all_le a b ≡ true
test_from_le [] b h = refl
test_from_le (x ∷ a) [] h = let here : x ≤ 0 = h 0 in let rest : all_le a [] ≡ true = test_from_le a [] (λ i. h (suc i)) in grind (arith, nat_tests)
test_from_le (x ∷ a) (y ∷ b) h = let here : x ≤ y = h 0 in let rest : all_le a b ≡ true = test_from_le a b (λ i. h (suc i)) in grind (arith, nat_tests)

pub all_le-from_AllLe : (a b : List ℕ) → AllLe a b → all_le a b ≡ true
all_le-from_AllLe a b h = test_from_le a b h.each

pub not_AllLe : (a b : List ℕ) → all_le a b ≡ false → AllLe a b → ⊥
not_AllLe a b e h = let yes_too : all_le a b ≡ true = all_le-from_AllLe a b h in cc

pub same_lists : (a b : List ℕ) → length a ≡ length b → ((i : ℕ) → part a i ≤ part b i) → ((i : ℕ) → part b i ≤ part a i) → a ≡ b
same_lists [] [] e up down = refl
same_lists [] (y ∷ b) e up down = absurd (omega arith)
same_lists (x ∷ a) [] e up down = absurd (omega arith)
same_lists (x ∷ a) (y ∷ b) e up down =
    let here : x ≡ y = omega (arith, up 0, down 0) in
    let rest : a ≡ b = same_lists a b (omega arith) (λ i. up (suc i)) (λ i. down (suc i)) in cc

pub AllLe-joined_left : (a b : List ℕ) → AllLe a (joined a b)
AllLe-joined_left a b = record { each = λ i. omega (arith, part-joined a b i) }

pub AllLe-joined_right : (a b : List ℕ) → AllLe b (joined a b)
AllLe-joined_right a b = record { each = λ i. omega (arith, part-joined a b i) }

pub joined_least : (a b v : List ℕ) → AllLe a v → AllLe b v → AllLe (joined a b) v
joined_least a b v left right = record { each = λ i. omega (arith, part-joined a b i, left.each i, right.each i) }

pub set-raised : (v : List ℕ) (i : ℕ) → i < length v → set v i (get_or v i 0 + 1) ≡ raised v i
set-raised [] i h = absurd (omega arith)
set-raised (x ∷ v) zero h = rw add-one refl
set-raised (x ∷ v) (suc i) h = ap (λ w. x ∷ w) (set-raised v i (omega arith))

pub AllLe-same : (a : List ℕ) → AllLe a a
AllLe-same a = record { each = λ i. omega arith }

pub AllLe-through : (a b c : List ℕ) → AllLe a b → AllLe b c → AllLe a c
AllLe-through a b c up on = record { each = λ i. omega (arith, up.each i, on.each i) }

pub joined-commutes : (a b : List ℕ) → joined a b ≡ joined b a
joined-commutes [] [] = refl
joined-commutes [] (y ∷ b) = refl
joined-commutes (x ∷ a) [] = refl
joined-commutes (x ∷ a) (y ∷ b) =
    let here : max x y ≡ max y x = omega arith in
    let rest : joined a b ≡ joined b a = joined-commutes a b in cc

pub joined-associates : (a b c : List ℕ) → joined (joined a b) c ≡ joined a (joined b c)
joined-associates [] b c = refl
joined-associates (x ∷ a) [] c = refl
joined-associates (x ∷ a) (y ∷ b) [] = refl
joined-associates (x ∷ a) (y ∷ b) (z ∷ c) =
    let here : max (max x y) z ≡ max x (max y z) = omega arith in
    let rest : joined (joined a b) c ≡ joined a (joined b c) = joined-associates a b c in cc

pub joined-again : (a : List ℕ) → joined a a ≡ a
joined-again [] = refl
joined-again (x ∷ a) =
    let here : max x x ≡ x = omega arith in
    let rest : joined a a ≡ a = joined-again a in cc
