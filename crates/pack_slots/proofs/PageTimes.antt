-- How often a page is among others.
use Rattle.std.proofs.Common.{◌≡◌, ◌≢◌, ℕ, zero, suc, ◌+◌, ◌<◌, ◌≤◌, Bool, List, [], ◌∷◌, ◌++◌, length, take, get_or, refl, ap, ◌∙◌, arith}
use Rattle.std.specs.Prelude.{◌==◌, if◌then◌else◌}
use Rattle.std.proofs.lemmas.Bool.{eq-eqb, ne_eqb}
use Rattle.std.proofs.lemmas.List.{take_more}
use Rattle.locus_ids.specs.Sizes.{pack_pages}
use Rattle.pack_slots.specs.Copies.{times}

pub times-append : (p : ℕ) (xs ys : List ℕ) → times p (xs ++ ys) ≡ times p xs + times p ys
times-append p [] ys = omega arith
times-append p (x ∷ xs) ys = let more = times-append p xs ys in omega arith

pub times_take : (p : ℕ) (xs : List ℕ) (i : ℕ) → i < length xs → times p (take (i + 1) xs) ≡ times p (take i xs) + (if get_or xs i 0 == p then 1 else 0)
times_take p xs i lt =
    ap (times p) (take_more xs i 0 lt) ∙ times-append p (take i xs) (get_or xs i 0 ∷ [])
    ∙ (let e : times p (take i xs) + ((if get_or xs i 0 == p then 1 else 0) + 0) ≡ times p (take i xs) + (if get_or xs i 0 == p then 1 else 0) = omega arith in e)

pub times_own : (p x : ℕ) → x ≡ p → (let n : ℕ = if x == p then 1 else 0 in n) ≡ 1
times_own p x e = ap (λ (b : Bool). if b then 1 else 0) (eq-eqb x p e)

pub times_other : (p x : ℕ) → x ≢ p → (let n : ℕ = if x == p then 1 else 0 in n) ≡ 0
times_other p x ne = ap (λ (b : Bool). if b then 1 else 0) (ne_eqb x p ne)

pub times_fewer : (p : ℕ) (xs : List ℕ) (m n : ℕ) → m ≤ n → times p (take m xs) ≤ times p (take n xs)
times_fewer p xs zero n le = omega arith
times_fewer p [] (suc m) zero le = omega arith
times_fewer p [] (suc m) (suc n) le = omega arith
times_fewer p (x ∷ xs) (suc m) zero le = absurd (omega arith)
times_fewer p (x ∷ xs) (suc m) (suc n) le = let more = times_fewer p xs m n (omega arith) in omega arith

-- among all of some pages, or the first n of them where the others are none
pub times_all : (p : ℕ) (xs : List ℕ) (n : ℕ) → length xs ≤ n → times p (take n xs) ≡ times p xs
times_all p [] zero le = refl
times_all p [] (suc n) le = refl
times_all p (x ∷ xs) zero le = absurd (omega arith)
times_all p (x ∷ xs) (suc n) le = let rest = times_all p xs n (omega arith) in omega arith

pub times_first : (p : ℕ) (xs : List ℕ) (n : ℕ) → p < pack_pages → ((i : ℕ) → n ≤ i → i < length xs → get_or xs i 0 ≡ 65535) → times p xs ≡ times p (take n xs)
times_first p [] zero small none = refl
times_first p [] (suc n) small none = refl
times_first p (x ∷ xs) zero small none =
    let here : x ≡ 65535 = none 0 (omega arith) (omega arith) in
    let other = times_other p x (λ e. omega arith) in
    let rest = times_first p xs zero small (λ i le lt. none (suc i) (omega arith) (omega arith)) in
    omega arith
times_first p (x ∷ xs) (suc n) small none =
    let rest = times_first p xs n small (λ i le lt. none (suc i) (omega arith) (omega arith)) in
    omega arith

-- what a page has of names among the first n is one more than among those before it
pub named_here : (xs : List ℕ) (i n : ℕ) → i < n → n ≤ length xs → times (get_or xs i 0) (take i xs) + 1 ≤ times (get_or xs i 0) (take n xs)
named_here xs i n lt le =
    let more = times_take (get_or xs i 0) xs i (omega arith) in
    let own = times_own (get_or xs i 0) (get_or xs i 0) refl in
    let fewer = times_fewer (get_or xs i 0) xs (i + 1) n (omega arith) in
    omega arith

pub named_all : (xs : List ℕ) (i : ℕ) → i < length xs → times (get_or xs i 0) (take i xs) + 1 ≤ times (get_or xs i 0) xs
named_all xs i lt = let here = named_here xs i (length xs) lt (omega arith) in let all = times_all (get_or xs i 0) xs (length xs) (omega arith) in omega arith

-- over pages that are the same in both, as many are added in both
pub times_same : (p : ℕ) (xs ys : List ℕ) (n d : ℕ) → n + d ≤ length xs → n + d ≤ length ys → ((i : ℕ) → n ≤ i → i < n + d → get_or xs i 0 ≡ get_or ys i 0) → times p (take (n + d) xs) + times p (take n ys) ≡ times p (take (n + d) ys) + times p (take n xs)
times_same p xs ys n zero few less same =
    let e : n + 0 ≡ n = omega arith in
    let f = ap (λ (k : ℕ). times p (take k xs)) e in
    let g = ap (λ (k : ℕ). times p (take k ys)) e in
    omega arith
times_same p xs ys n (suc d) few less same =
    let before = times_same p xs ys n d (omega arith) (omega arith) (λ i low high. same i low (omega arith)) in
    let e : n + suc d ≡ n + d + 1 = omega arith in
    let f = ap (λ (k : ℕ). times p (take k xs)) e ∙ times_take p xs (n + d) (omega arith) in
    let g = ap (λ (k : ℕ). times p (take k ys)) e ∙ times_take p ys (n + d) (omega arith) in
    let here = ap (λ (x : ℕ). (let k : ℕ = if x == p then 1 else 0 in k)) (same (n + d) (omega arith) (omega arith)) in
    omega arith
