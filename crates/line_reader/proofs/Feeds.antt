-- Where line feeds stand in a list of bytes.
use Rattle.std.proofs.Common.{ℕ, zero, suc, ◌≡◌, ◌+◌, ◌≤◌, ◌<◌, ◌==◌, ◌||◌, Bool, true, false, cond, List, [], ◌∷◌, length, take, refl, arith, get_or, Some, MatchOption, not, inl, inr}
use Rattle.std.specs.List.{position, position_or_len}
use Rattle.std.proofs.lemmas.Bool.Decides.{leb_tells}
use Rattle.std.proofs.lemmas.Bool.{eqb-true}
use Rattle.std.proofs.lemmas.List.Quantifiers.{position-Some}
use Rattle.line_reader.specs.Reading.{has_feed, IsFirstFeed}

abbrev is_feed : ℕ → Bool
is_feed b = b == 10

-- neither of two tests holds
pub neither : (x y : Bool) → (x || y) ≡ false → (x ≡ false) × (y ≡ false)
neither true y h = cc
neither false y h = (refl, h)

-- no byte below a place is a line feed
free_below : (bytes : List ℕ) (n : ℕ) → ((k : ℕ) → k < n → (get_or bytes k 0 == 10) ≡ false) → n ≤ length bytes → has_feed (take n bytes) ≡ false
free_below bytes zero h w = refl
free_below [] (suc n) h w = absurd (omega arith)
free_below (b ∷ bs) (suc n) h w = rw (h 0 (omega arith)) (free_below bs n (λ k p. h (suc k) (omega arith)) (omega arith))

-- a place that is not below the length is that of no line feed
free_all : (bytes : List ℕ) → length bytes ≤ position_or_len is_feed bytes → has_feed bytes ≡ false
free_all [] h = refl
free_all (b ∷ bs) h = by_test (b == 10) (free_all bs) h
  where
    by_test : (t : Bool) → (length bs ≤ position_or_len is_feed bs → has_feed bs ≡ false) → suc (length bs) ≤ cond (not t) (1 + position_or_len is_feed bs) 0 → (t || has_feed bs) ≡ false
    by_test true f w = absurd (omega arith)
    by_test false f w = f (omega arith)

-- what `position` finds
pub feed_at : (bytes : List ℕ) → MatchOption (position is_feed bytes) (has_feed bytes ≡ false) (IsFirstFeed bytes)
feed_at bytes =
    elim (leb_tells (suc (position_or_len is_feed bytes)) (length bytes)) [
      | inl h ↦
          let at : ℕ = position_or_len is_feed bytes in
          let found : position is_feed bytes ≡ Some at = rw h.0 refl in
          let all = position-Some is_feed bytes at 0 found in
          rw h.0 (record { within = h.1; feed = eqb-true (get_or bytes at 0) 10 all.1; free = free_below bytes at all.2 (omega arith) })
      | inr h ↦ rw h.0 (free_all bytes (omega arith))
    ]
