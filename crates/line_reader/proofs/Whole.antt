-- Lines that end with a line feed.
use Rattle.std.proofs.Common.{ℕ, ◌≡◌, ◌==◌, Bool, true, false, cond, List, [], ◌∷◌, ◌++◌, refl, ap, ◌∙◌, inl, inr, ◌⊎◌, ⊎_elim}
use Rattle.std.proofs.lemmas.Bool.Decides.{eqb_tells}
use Rattle.line_reader.specs.Reading.{has_feed, first_line, after_line, whole_lines, onto_whole, ReadsLine}
use Rattle.line_reader.proofs.Feeds.{neither}

-- the start of a line is none
pub whole_lines-part : (part : List ℕ) → has_feed part ≡ false → whole_lines part ≡ []
whole_lines-part [] h = refl
whole_lines-part (b ∷ bs) h = let e = neither (b == 10) (has_feed bs) h in rw e.0 (ap (onto_whole b) (whole_lines-part bs e.1))

-- a line and its line feed stand first
pub whole_lines-line : (line rest : List ℕ) → has_feed line ≡ false → whole_lines (line ++ 10 ∷ rest) ≡ line ∷ whole_lines rest
whole_lines-line [] rest h = refl
whole_lines-line (b ∷ bs) rest h = let e = neither (b == 10) (has_feed bs) h in rw e.0 (ap (onto_whole b) (whole_lines-line bs rest e.1))

-- no line has a line feed in it
first_line-free-of : (xs : List ℕ) → has_feed (first_line xs) ≡ false
first_line-free-of [] = refl
first_line-free-of (b ∷ bs) = by_test (b == 10) refl (first_line-free-of bs)
  where
    by_test : (t : Bool) → (b == 10) ≡ t → has_feed (first_line bs) ≡ false → has_feed (cond t [] (b ∷ first_line bs)) ≡ false
    by_test true e h = refl
    by_test false e h = rw e h

-- the first line ends with a line feed, or is all there is
first-ends : (xs : List ℕ) → (xs ≡ first_line xs ++ 10 ∷ after_line xs) ⊎ (after_line xs ≡ [])
first-ends [] = inr refl
first-ends (b ∷ bs) = ⊎_elim
    (λ w. inl (rw w.0 (ap (λ n. n ∷ bs) w.1)))
    (λ w. ⊎_elim (λ e. inl (rw w.0 (ap (λ s. b ∷ s) e))) (λ e. inr (rw w.0 e)) (first-ends bs))
    (eqb_tells b 10)

-- the line that was read ends with a line feed, or nothing is left behind it
pub read-ends : (line xs ys : List ℕ) → ReadsLine line xs ys → ((xs ≡ line ++ 10 ∷ ys) × (has_feed line ≡ false)) ⊎ (ys ≡ [])
read-ends line xs ys h = ⊎_elim
    (λ e. inl (rw (h.first, h.rest) e, rw h.first (first_line-free-of xs)))
    (λ e. inr (h.rest ∙ e))
    (first-ends xs)
