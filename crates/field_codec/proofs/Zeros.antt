-- Lists of zeros.
use Rattle.std.proofs.Common.{◌≡◌, ℕ, suc, ◌<◌, ◌≤◌, Bool, IsTrue, ◌↔◌, cond, ltb, List, [], ◌∷◌, length, get_or, take, replicate, Ok, Err, refl, sym, ap, ◌∙◌, arith, rules}
use Rattle.std.proofs.lemmas.Bool.{ltb-false}
use Rattle.std.proofs.lemmas.List.{length-take, length-replicate}
use Rattle.std.proofs.lemmas.Slice.Eq.{bytes_eq-Decides}
use Rattle.std.specs.Bool.{Decides}
use Rattle.std.specs.Str.{bytes_eq}
use Rattle.field_codec.specs.declared.faults.FieldFault.{FieldFault}
use Rattle.field_codec.specs.declared.faults.FieldFault.TheVariants.{Short, Range}
use Rattle.field_codec.specs.Codec.{Unread, past, read_fixed, read_exactly, zeros}
use Rattle.field_codec.proofs.Laws.{guard_ok}

-- a list whose items are 0 is a list of zeros
pub zeros_by_item : (bytes : List ℕ) → ((k : ℕ) → k < length bytes → get_or bytes k 0 ≡ 0) → bytes ≡ replicate (length bytes) 0
zeros_by_item [] h = refl
zeros_by_item (b ∷ bs) h =
    let first : b ≡ 0 = h 0 (omega arith) in
    let others : bs ≡ replicate (length bs) 0 = zeros_by_item bs (λ k lt. h (suc k) (omega arith)) in
    ap (λ (x : ℕ). x ∷ bs) first ∙ ap (λ (t : List ℕ). 0 ∷ t) others

decided : (r : Bool) (xs ys : List ℕ) → Decides r (xs ≡ ys) → r ≡ bytes_eq xs ys
decided r xs ys h = search (rules, bytes_eq-Decides)

length_read : (n : ℕ) (u : Unread) (bs : List ℕ) (v : Unread) → read_fixed n (λ t. t) u ≡ Ok (bs, v) → length bs ≡ n
unfolding read_fixed
length_read n u bs v e =
    let g = guard_ok (ltb (length u.bytes) n) (Short u.at) (take n u.bytes, past n u) (bs, v) e in
    let long : n ≤ length u.bytes = ltb-false _ _ g.0 in
    let same : take n u.bytes ≡ bs = ap (λ (p : List ℕ × Unread). p.0) g.1 in
    omega (arith, length-take n u.bytes, ap length same)

-- n bytes that were read are n zeros, or out of range
pub zeros_read : (n : ℕ) (u : Unread) (bs : List ℕ) (v : Unread) (r : Bool) → read_fixed n (λ t. t) u ≡ Ok (bs, v) → (IsTrue r ↔ (bs ≡ replicate (length bs) 0)) → (zeros n).read u ≡ cond r (Ok (tt, v)) (Err (Range u.at))
unfolding read_exactly
zeros_read n u bs v r e h =
    let len : length bs ≡ n = length_read n u bs v e in
    let is : bytes_eq bs (replicate n 0) ≡ r = sym (rw (← len) (decided r bs (replicate (length bs) 0) (h.0, h.1))) in
    rw (length-replicate {A = ℕ} n 0, e, is) refl

-- fewer than n bytes are short of n zeros
pub zeros_short : (n : ℕ) (u : Unread) (d : FieldFault) → read_fixed n (λ t. t) u ≡ Err d → (zeros n).read u ≡ Err d
unfolding read_exactly
zeros_short n u d e = rw (length-replicate {A = ℕ} n 0, e) refl
