-- Ranges of a block, and what a part of the bytes ahead shows of all of them.
use Rattle.std.proofs.Common.{ℕ, ◌≡◌, ◌+◌, ◌-◌, ◌≤◌, ◌<◌, ◌==◌, min, false, List, ◌++◌, length, take, drop, refl, ap, sym, ◌∙◌, arith, length-take, length-drop, inl, inr}
use Rattle.std.proofs.lemmas.Bool.{cases_lt}
use Rattle.std.proofs.lemmas.List.{take-take, take_all, get_or-take, get_or-drop, drop-drop, drop-take, drop_all}
use Rattle.std.proofs.lemmas.List.Folds.{list_any-append}
use Rattle.std.proofs.Math.Seq.{take-add}
use Rattle.line_reader.specs.Reading.{has_feed, IsFirstFeed}

-- two parts without a line feed have none together
pub free_both : (xs ys : List ℕ) → has_feed xs ≡ false → has_feed ys ≡ false → has_feed (xs ++ ys) ≡ false
free_both xs ys p q = rw (list_any-append (λ b. b == 10) xs ys, p, q) refl

-- a line feed found behind bytes that have none is the first one
pub found_behind : (ahead : List ℕ) (seen n at : ℕ) → has_feed (take seen ahead) ≡ false → IsFirstFeed (take n (drop seen ahead)) at → IsFirstFeed ahead (seen + at)
found_behind ahead seen n at free found =
    let near : at < n = omega (arith, found.within, length-take n (drop seen ahead)) in
    record {
      within = omega (arith, found.within, length-take n (drop seen ahead), length-drop seen ahead);
      feed = sym (get_or-drop seen ahead at 0) ∙ sym (get_or-take n (drop seen ahead) at 0 near) ∙ found.feed;
      free = rw (take-add seen at ahead) (free_both (take seen ahead) (take at (drop seen ahead)) free (rw (take-take at n (drop seen ahead) (omega arith)) at found.free));
    }

-- none behind bytes that have none: none up to there
pub none_behind : (ahead : List ℕ) (seen n : ℕ) → has_feed (take seen ahead) ≡ false → has_feed (take n (drop seen ahead)) ≡ false → has_feed (take (seen + n) ahead) ≡ false
none_behind ahead seen n free more = rw (take-add seen n ahead) (free_both (take seen ahead) (take n (drop seen ahead)) free more)

-- the front of a range is a range
pub range_front : (xs : List ℕ) (from to len : ℕ) → len ≤ to - from → take (from + len - from) (drop from xs) ≡ take len (take (to - from) (drop from xs))
range_front xs from to len h =
    let e : from + len - from ≡ len = omega arith in
    rw e (sym (take-take len (to - from) (drop from xs) h))

-- the rest of a range, past so many bytes and one more
pub range_rest : (xs : List ℕ) (from to len next : ℕ) → from ≤ to → next ≡ min to (from + len + 1) → take (to - next) (drop next xs) ≡ drop (len + 1) (take (to - from) (drop from xs))
range_rest xs from to len next h e = elim (cases_lt (to - from) (len + 1)) [
  | inl few ↦
      let none : to - next ≡ 0 = omega arith in
      rw none (sym (drop_all (len + 1) (take (to - from) (drop from xs)) (omega (arith, length-take (to - from) (drop from xs)))))
  | inr many ↦
      let whole : to - from ≡ (len + 1) + (to - next) = omega arith in
      let place : next ≡ from + (len + 1) = omega arith in
      rw whole (rw (drop-take (len + 1) (to - next) (drop from xs)) (rw (drop-drop (len + 1) from xs) (rw place refl)))
]

-- bytes kept at the front and bytes taken behind them
pub range_grown : (xs ahead : List ℕ) (at n : ℕ) → take at xs ≡ ahead → take (at + n - 0) (drop 0 xs) ≡ ahead ++ take (at + n - at) (drop at xs)
range_grown xs ahead at n e =
    let all : at + n - 0 ≡ at + n = omega arith in
    let some : at + n - at ≡ n = omega arith in
    rw (all, some) (take-add at n xs ∙ ap (λ s. s ++ take n (drop at xs)) e)

-- none behind bytes that have none, up to the end or one byte past the limit
pub none_up_to : (ahead : List ℕ) (seen most end : ℕ) → seen ≤ end → end ≡ most → has_feed (take seen ahead) ≡ false → has_feed (take (end - seen) (drop seen ahead)) ≡ false → has_feed (take most ahead) ≡ false
none_up_to ahead seen most end h e free more =
    let whole : seen + (end - seen) ≡ most = omega arith in
    rw whole at (none_behind ahead seen (end - seen) free more)

-- and so in all of them
pub none_at_all : (ahead : List ℕ) (seen end : ℕ) → seen ≤ end → end ≡ length ahead → has_feed (take seen ahead) ≡ false → has_feed (take (end - seen) (drop seen ahead)) ≡ false → has_feed ahead ≡ false
none_at_all ahead seen end h e free more =
    rw (take_all (length ahead) ahead (omega arith)) at (none_up_to ahead seen (length ahead) end h e free more)

-- a list that begins with another, and is no longer, is the other
pub nothing_more : (xs old : List ℕ) (n : ℕ) → take (length old) xs ≡ old → length xs ≡ length old + n → n ≡ 0 → xs ≡ old
nothing_more xs old n front len none = sym (take_all (length old) xs (omega arith)) ∙ front
