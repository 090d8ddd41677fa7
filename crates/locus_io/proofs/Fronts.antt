-- What a source in memory gives of its bytes.
use Rattle.std.proofs.Common.{ℕ, ◌≡◌, ◌+◌, ◌<◌, min, List, [], ◌++◌, length, take, drop, sym, ◌∙◌, ap, arith, length-drop, length-append}
use Rattle.std.proofs.lemmas.List.{take-append-drop, length-take, drop-drop, drop_all}
use Rattle.std.proofs.Math.Seq.{take-append_seam}

take_front : (xs ys : List ℕ) (n : ℕ) → length xs ≡ n → take n (xs ++ ys) ≡ xs
take_front xs ys n h = rw (← h) (take-append_seam xs ys)

-- the bytes from `at` on are the front that went into the room, and the bytes behind it
pub front_taken : (bytes room new : List ℕ) (at n : ℕ) → n ≡ min (length (drop at bytes)) (length room) → new ≡ take n (drop at bytes) ++ drop n room → drop at bytes ≡ take n new ++ drop (at + n) bytes
front_taken bytes room new at n count copied =
    let len : length (take n (drop at bytes)) ≡ n = omega (arith, length-take n (drop at bytes)) in
    let front : take n new ≡ take n (drop at bytes) = ap (take n) copied ∙ take_front (take n (drop at bytes)) (drop n room) n len in
    sym (take-append-drop n (drop at bytes)) ∙ ap (λ s. s ++ drop n (drop at bytes)) (sym front) ∙ ap (λ s. take n new ++ s) (drop-drop n at bytes)

-- a front of no bytes, into room, is the end
pub none_left : (bytes room new : List ℕ) (at n : ℕ) → n ≡ min (length (drop at bytes)) (length room) → new ≡ take n (drop at bytes) ++ drop n room → n ≡ 0 → 0 < length new → drop (at + n) bytes ≡ []
none_left bytes room new at n count copied none some =
    let len : length new ≡ length (take n (drop at bytes)) + length (drop n room) = ap length copied ∙ length-append (take n (drop at bytes)) (drop n room) in
    drop_all (at + n) bytes (omega (arith, length-take n (drop at bytes), length-drop n room, length-drop at bytes))
