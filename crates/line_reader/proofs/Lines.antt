-- The first line of some bytes, and the lines.
use Rattle.std.proofs.Common.{ℕ, suc, ◌≡◌, ◌+◌, ◌<◌, ◌==◌, Bool, true, false, cond, List, [], ◌∷◌, ◌++◌, length, take, drop, refl, ap, sym, ◌∙◌, arith, length-append, append_assoc, get_or, add-one}
use Rattle.std.specs.List.{onto_first}
use Rattle.std.proofs.lemmas.List.{take-append-drop, append-nil, length-take, take_all, drop_all}
use Rattle.std.proofs.Math.Seq.{drop-cons}
use Rattle.line_reader.specs.Reading.{lines_of, first_line, after_line, has_feed, IsFirstFeed, ReadsLine, EndsInFeed, IsLong}
use Rattle.line_reader.proofs.Feeds.{neither}

-- the lines are the first one, and those of what follows it
pub lines_of-some : (xs : List ℕ) → 0 < length xs → lines_of xs ≡ first_line xs ∷ lines_of (after_line xs)
lines_of-some [] h = absurd (omega arith)
lines_of-some (b ∷ []) h = by_test (b == 10)
  where
    by_test : (t : Bool) → cond t ([] ∷ []) (onto_first b []) ≡ cond t [] (b ∷ []) ∷ lines_of (cond t [] [])
    by_test true = refl
    by_test false = refl
lines_of-some (b ∷ c ∷ cs) h = by_test (b == 10) (lines_of-some (c ∷ cs) (omega arith))
  where
    by_test : (t : Bool) → lines_of (c ∷ cs) ≡ first_line (c ∷ cs) ∷ lines_of (after_line (c ∷ cs)) → cond t ([] ∷ lines_of (c ∷ cs)) (onto_first b (lines_of (c ∷ cs))) ≡ cond t [] (b ∷ first_line (c ∷ cs)) ∷ lines_of (cond t (c ∷ cs) (after_line (c ∷ cs)))
    by_test true e = refl
    by_test false e = ap (onto_first b) e

-- bytes without a line feed stand whole in the first line
pub first_line-free : (xs ys : List ℕ) → has_feed xs ≡ false → first_line (xs ++ ys) ≡ xs ++ first_line ys
first_line-free [] ys h = refl
first_line-free (b ∷ bs) ys h = let e = neither (b == 10) (has_feed bs) h in rw e.0 (ap (λ s. b ∷ s) (first_line-free bs ys e.1))

-- what follows the first line is past them
pub after_line-free : (xs ys : List ℕ) → has_feed xs ≡ false → after_line (xs ++ ys) ≡ after_line ys
after_line-free [] ys h = refl
after_line-free (b ∷ bs) ys h = let e = neither (b == 10) (has_feed bs) h in rw e.0 (after_line-free bs ys e.1)

pub first_line-all : (xs : List ℕ) → has_feed xs ≡ false → first_line xs ≡ xs
first_line-all xs h = ap first_line (sym (append-nil xs)) ∙ first_line-free xs [] h ∙ append-nil xs

pub after_line-all : (xs : List ℕ) → has_feed xs ≡ false → after_line xs ≡ []
after_line-all xs h = ap after_line (sym (append-nil xs)) ∙ after_line-free xs [] h

-- a line, its line feed and the rest
read_parts : (line rest xs : List ℕ) → has_feed line ≡ false → xs ≡ line ++ 10 ∷ rest → ReadsLine line xs rest
read_parts line rest xs free e =
    let first : first_line xs ≡ line = ap first_line e ∙ first_line-free line (10 ∷ rest) free ∙ append-nil line in
    let after : after_line xs ≡ rest = ap after_line e ∙ after_line-free line (10 ∷ rest) free in
    let some : 0 < length xs = omega (arith, ap length e, length-append line (10 ∷ rest)) in
    record {
      some = some;
      first = sym first;
      rest = sym after;
      lines = lines_of-some xs some ∙ ap (λ s. s ∷ lines_of (after_line xs)) first ∙ ap (λ s. line ∷ lines_of s) after;
    }

split_at : (xs : List ℕ) (i : ℕ) → i < length xs → xs ≡ take i xs ++ get_or xs i 0 ∷ drop (suc i) xs
split_at xs i h = sym (take-append-drop i xs) ∙ ap (λ s. take i xs ++ s) (drop-cons xs i 0 h)

-- a line that stands whole ahead is read
pub reads_whole : (ahead : List ℕ) (len : ℕ) → IsFirstFeed ahead len → (left : List ℕ) → ReadsLine (take len ahead) (ahead ++ left) (drop (len + 1) ahead ++ left)
reads_whole ahead len found left =
    let parts : ahead ≡ take len ahead ++ 10 ∷ drop (suc len) ahead = rw found.feed at (split_at ahead len found.within) in
    rw (add-one) (read_parts (take len ahead) (drop (suc len) ahead ++ left) (ahead ++ left) found.free
    (ap (λ s. s ++ left) parts ∙ append_assoc (take len ahead) (10 ∷ drop (suc len) ahead) left))

-- it ends with its line feed
pub ends_in_feed : (ahead : List ℕ) (len : ℕ) → IsFirstFeed ahead len → (left : List ℕ) → EndsInFeed (take len ahead) (ahead ++ left) (drop (len + 1) ahead ++ left)
ends_in_feed ahead len found left =
    let parts : ahead ≡ take len ahead ++ 10 ∷ drop (suc len) ahead = rw found.feed at (split_at ahead len found.within) in
    rw (add-one) (record {
      parts = ap (λ s. s ++ left) parts ∙ append_assoc (take len ahead) (10 ∷ drop (suc len) ahead) left;
      free = found.free;
    })

-- a last line, without a line feed, is read
pub reads_last : (line rest : List ℕ) → 0 < length line → has_feed line ≡ false → rest ≡ [] → ReadsLine line line rest
reads_last line rest some free none = record {
  some = some;
  first = sym (first_line-all line free);
  rest = none ∙ sym (after_line-all line free);
  lines = lines_of-some line some ∙ ap (λ s. s ∷ lines_of (after_line line)) (first_line-all line free) ∙ ap (λ s. line ∷ lines_of s) (after_line-all line free ∙ sym none);
}

-- a line that has more bytes than the limit before any line feed is too long
pub is_long : (ahead : List ℕ) (limit : ℕ) → limit < length ahead → has_feed (take (limit + 1) ahead) ≡ false → (left : List ℕ) → IsLong limit (ahead ++ left)
is_long ahead limit h free left =
    let parts : ahead ++ left ≡ take (limit + 1) ahead ++ (drop (limit + 1) ahead ++ left) =
    ap (λ s. s ++ left) (sym (take-append-drop (limit + 1) ahead)) ∙ append_assoc (take (limit + 1) ahead) (drop (limit + 1) ahead) left in
    let first : first_line (ahead ++ left) ≡ take (limit + 1) ahead ++ first_line (drop (limit + 1) ahead ++ left) =
    ap first_line parts ∙ first_line-free (take (limit + 1) ahead) (drop (limit + 1) ahead ++ left) free in
    record {
      long = omega (arith, ap length first, length-append (take (limit + 1) ahead) (first_line (drop (limit + 1) ahead ++ left)), length-take (limit + 1) ahead);
      lines = lines_of-some (ahead ++ left) (omega (arith, length-append ahead left));
    }

-- all bytes ahead, with nothing left behind them and no line feed, are the last line
pub reads_rest : (ahead : List ℕ) (len : ℕ) → len ≡ length ahead → 0 < len → has_feed ahead ≡ false → (left : List ℕ) → left ≡ [] → ReadsLine (take len ahead) (ahead ++ left) (drop (len + 1) ahead ++ left)
reads_rest ahead len e some free left none =
    let whole : take len ahead ≡ ahead = take_all len ahead (omega arith) in
    let rest : drop (len + 1) ahead ≡ [] = drop_all (len + 1) ahead (omega arith) in
    rw (none, append-nil ahead, whole, rest) (reads_last ahead [] (omega arith) free refl)
