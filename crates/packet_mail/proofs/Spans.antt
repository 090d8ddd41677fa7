-- One packet more in a row of the bytes of packets.
use Rattle.std.proofs.Common.{◌≡◌, ℕ, zero, suc, ◌+◌, ◌-◌, ◌≤◌, List, [], ◌∷◌, ◌++◌, length, take, drop, refl, sym, ap, ◌∙◌, arith}
use Rattle.std.specs.List.{concat, slice_range}
use Rattle.std.proofs.lemmas.List.{map-append, length-append, take-append-drop, take-append-le, take_all}
use Rattle.packet_queue.specs.of_role_steps.Tables.{total}
use Rattle.packet_mail.specs.declared.letter_row.Span.{Span}
use Rattle.packet_mail.specs.Spans.{bytes_at, letters_in, ArePlaces, AreOneRow}
use Rattle.packet_mail.proofs.Rows.{part_stays, part_new}

-- places in a row are places in a longer one
pub still_places : (m n : ℕ) (places : List Span) → m ≤ n → ArePlaces m places → ArePlaces n places
still_places m n [] l h = tt
still_places m n (s ∷ ss) l h = ((h.0.0, (let e = h.0.1 in omega arith)), still_places m n ss l h.1)

-- a longer row has the letters that it had
letters_stay : (row more : List ℕ) (places : List Span) → ArePlaces (length row) places → letters_in (row ++ more) places ≡ letters_in row places
letters_stay row more [] h = refl
letters_stay row more (s ∷ ss) h = rw (part_stays row more s.start s.end h.0.0 h.0.1, letters_stay row more ss h.1) refl

one_place_more : (n : ℕ) (places : List Span) (s : Span) → s.start ≤ s.end → s.end ≤ n → ArePlaces n places → ArePlaces n (places ++ s ∷ [])
one_place_more n [] s l m h = ((l, m), tt)
one_place_more n (t ∷ ts) s l m h = (h.0, one_place_more n ts s l m h.1)

row_more : (from m n : ℕ) (places : List Span) (s : Span) → s.start ≡ m → s.end ≡ n → m ≤ n → AreOneRow from m places → AreOneRow from n (places ++ s ∷ [])
row_more from m n [] s a b l h = (a ∙ sym h, ((let e : s.start ≡ m = a in let f : s.end ≡ n = b in omega arith), b))
row_more from m n (t ∷ ts) s a b l h = (h.0, (h.1.0, row_more t.end m n ts s a b l h.1.1))

row_from : (from n : ℕ) (places : List Span) → AreOneRow from n places → from ≤ n
row_from from n [] h = omega arith
row_from from n (s ∷ ss) h = let rest = row_from s.end n ss h.1.1 in let a = h.0 in let b = h.1.0 in omega arith

drop_end : {A : Type 0} (xs : List A) (n : ℕ) → length xs ≤ n → drop n xs ≡ []
drop_end [] zero l = refl
drop_end [] (suc n) l = refl
drop_end (x ∷ xs) zero l = absurd (omega arith)
drop_end (x ∷ xs) (suc n) l = drop_end xs n (omega arith)

drop_none : {A : Type 0} (n : ℕ) → drop {A = A} n [] ≡ []
drop_none zero = refl
drop_none (suc n) = refl

drop_twice : {A : Type 0} (xs : List A) (n m : ℕ) → drop (n + m) xs ≡ drop m (drop n xs)
drop_twice xs zero m = let e : 0 + m ≡ m = omega arith in ap (λ k. drop k xs) e
drop_twice [] (suc n) m = drop_none (suc n + m) ∙ (sym (drop_none m) ∙ ap (drop m) (sym (drop_none (suc n))))
drop_twice (x ∷ xs) (suc n) m = let e : suc n + m ≡ suc (n + m) = omega arith in ap (λ k. drop k (x ∷ xs)) e ∙ drop_twice xs n m

row_joined : (from : ℕ) (row : List ℕ) (places : List Span) → AreOneRow from (length row) places → concat (letters_in row places) ≡ drop from row
row_joined from row [] h = sym (drop_end row from (let e : from ≡ length row = h in omega arith))
row_joined from row (s ∷ ss) h =
    let order : from ≤ s.end = (let a = h.0 in let b = h.1.0 in omega arith) in
    let sum : from + (s.end - from) ≡ s.end = omega arith in
    ap (λ y. slice_range row y s.end ++ concat (letters_in row ss)) h.0
    ∙ (ap (λ y. slice_range row from s.end ++ y) (row_joined s.end row ss h.1.1 ∙ (ap (λ k. drop k row) (sym sum) ∙ drop_twice row from (s.end - from)))
    ∙ take-append-drop (s.end - from) (drop from row))

-- the letters of a row are the row
pub row_is : (row : List ℕ) (places : List Span) → AreOneRow 0 (length row) places → row ≡ concat (letters_in row places)
row_is row places h = sym (row_joined 0 row places h)

-- letters have together as many bytes as each by itself
pub joined_size : (letters : List (List ℕ)) → length (concat letters) ≡ total (λ (x : List ℕ). length x) letters
joined_size [] = refl
joined_size (l ∷ ls) = length-append l (concat ls) ∙ ap (λ n. length l + n) (joined_size ls)

module _ (row row' more : List ℕ) (places places' : List Span) (start end : ℕ) (s : start ≡ length row) (r : row' ≡ row ++ more) (e : end ≡ length row') (p : places' ≡ places ++ record { start = start; end = end } ∷ []) (h : ArePlaces (length row) places) where
  longer : length row' ≡ length row + length more
  longer = ap length r ∙ length-append row more

  pub add_keeps : ArePlaces (length row') places'
  add_keeps =
      let l = longer in
      rw p (one_place_more (length row') places (record { start = start; end = end }) (omega arith) (omega arith) (still_places (length row) (length row') places (omega arith) h))

  pub add_gives : letters_in row' places' ≡ letters_in row places ++ more ∷ []
  add_gives = rw (p, e, s, r) (map-append (bytes_at (row ++ more)) places (record { start = length row; end = length (row ++ more) } ∷ []) ∙ rw (letters_stay row more places h, part_new row more) refl)

  pub add_in_row : AreOneRow 0 (length row) places → AreOneRow 0 (length row') places'
  add_in_row one =
      let l = longer in
      rw p (row_more 0 (length row) (length row') places (record { start = start; end = end }) s e (omega arith) one)

-- what was added last is taken away again
pub taken_back : (row row' row'' more : List ℕ) (start : ℕ) → start ≡ length row → row' ≡ row ++ more → row'' ≡ take start row' → row'' ≡ row
taken_back row row' row'' more start s r e = e ∙ (ap (take start) r ∙ (take-append-le start row more (omega arith) ∙ take_all start row (omega arith)))

pub kept_row : (row row'' : List ℕ) (places places'' : List Span) → row'' ≡ row → places'' ≡ places → ArePlaces (length row) places × AreOneRow 0 (length row) places → ArePlaces (length row'') places'' × AreOneRow 0 (length row'') places''
kept_row row row'' places places'' e f h = rw (e, f) h
