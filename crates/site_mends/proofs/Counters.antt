-- The counters that bytes spell, place by place.
use Rattle.std.proofs.Common.{◌≡◌, ℕ, zero, suc, ◌+◌, ◌-◌, ◌*◌, ◌≤◌, ◌<◌, List, ◌∷◌, length, take, drop, get_or, true, false, sym, ap, ◌∙◌, arith, drop-drop}
use Rattle.std.specs.Prelude.{◌&&◌, nat_le}
use Rattle.std.specs.Int.{from_be_bytes, w32}
use Rattle.std.proofs.lemmas.Bool.Decides.{nat_tests}
use Rattle.std.proofs.lemmas.List.{drop_more}
use Rattle.version_vector.specs.Counters.{all_le}
use Rattle.dir_format.specs.Contents.{counters}

counters_more : (m k : ℕ) (bytes : List ℕ) → m ≡ k + 1 → counters m bytes ≡ from_be_bytes w32 (take 4 bytes) ∷ counters k (drop 4 bytes)
counters_more zero k bytes e = absurd (omega (arith, e))
counters_more (suc m) k bytes e = ap (λ n. from_be_bytes w32 (take 4 bytes) ∷ counters n (drop 4 bytes)) (omega (arith, e))

-- the counters from a place on: the one there, and those behind it
pub counters_at : (parts bytes : List ℕ) (i : ℕ) → i < length parts
    → all_le (drop i parts) (counters (length parts - i) (drop (4 * i) bytes)) ≡ (nat_le (get_or parts i 0) (from_be_bytes w32 (take 4 (drop (4 * i) bytes))) && all_le (drop (i + 1) parts) (counters (length parts - (i + 1)) (drop (4 * (i + 1)) bytes)))
counters_at parts bytes i l =
    let further : drop 4 (drop (4 * i) bytes) ≡ drop (4 * (i + 1)) bytes = drop-drop 4 (4 * i) bytes ∙ ap (λ n. drop n bytes) {x = 4 * i + 4} {y = 4 * (i + 1)} (omega arith) in
    ap (λ v. all_le v (counters (length parts - i) (drop (4 * i) bytes))) (drop_more parts i 0 l)
    ∙ (ap (λ v. all_le (get_or parts i 0 ∷ drop (i + 1) parts) v) (counters_more (length parts - i) (length parts - (i + 1)) (drop (4 * i) bytes) (omega (arith, l)))
    ∙ ap (λ bs. nat_le (get_or parts i 0) (from_be_bytes w32 (take 4 (drop (4 * i) bytes))) && all_le (drop (i + 1) parts) (counters (length parts - (i + 1)) bs)) further)

pub four_at : (bytes : List ℕ) (i : ℕ) → from_be_bytes w32 (take (4 * i + 4 - 4 * i) (drop (4 * i) bytes)) ≡ from_be_bytes w32 (take 4 (drop (4 * i) bytes))
four_at bytes i = ap (λ n. from_be_bytes w32 (take n (drop (4 * i) bytes))) {x = 4 * i + 4 - 4 * i} {y = 4} (omega arith)

-- a counter that is greater than the one in its place
pub greater_here : (parts bytes : List ℕ) (i n : ℕ) → i < length parts → n ≡ from_be_bytes w32 (take 4 (drop (4 * i) bytes)) → n < get_or parts i 0 → all_le (drop i parts) (counters (length parts - i) (drop (4 * i) bytes)) ≡ false
greater_here parts bytes i n l is more =
    let up : nat_le (get_or parts i 0) n ≡ false = grind (arith, nat_tests) in
    counters_at parts bytes i l ∙ ap (λ b. b && all_le (drop (i + 1) parts) (counters (length parts - (i + 1)) (drop (4 * (i + 1)) bytes))) (ap (λ k. nat_le (get_or parts i 0) k) (sym is) ∙ up)

-- and one that isn't
pub least_here : (parts bytes : List ℕ) (i n : ℕ) → i < length parts → n ≡ from_be_bytes w32 (take 4 (drop (4 * i) bytes)) → get_or parts i 0 ≤ n
    → all_le (drop (i + 1) parts) (counters (length parts - (i + 1)) (drop (4 * (i + 1)) bytes)) ≡ all_le (drop i parts) (counters (length parts - i) (drop (4 * i) bytes))
least_here parts bytes i n l is less =
    let up : nat_le (get_or parts i 0) n ≡ true = grind (arith, nat_tests) in
    sym (counters_at parts bytes i l ∙ ap (λ b. b && all_le (drop (i + 1) parts) (counters (length parts - (i + 1)) (drop (4 * (i + 1)) bytes))) (ap (λ k. nat_le (get_or parts i 0) k) (sym is) ∙ up))
