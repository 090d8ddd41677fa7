-- What stood in ranges before they were written, put back.
use Rattle.std.proofs.Common.{◌≡◌, ℕ, zero, suc, ◌+◌, ◌-◌, ◌≤◌, ◌<◌, Bool, true, false, cond, ◌||◌, List, [], ◌∷◌, ◌++◌, length, take, drop, get_or, refl, sym, ◌∙◌, ap, arith, ⊎_elim, length-append, length-take, length-drop}
use Rattle.std.proofs.lemmas.Bool.{cases_Bool, true≢false}
use Rattle.std.proofs.lemmas.List.{same_lists, get_or_default, get_or-take, get_or-drop, length-take-le, take_all, drop_all, append-nil, take-append-le, drop-append-le, drop-drop, take-append-drop}
use Rattle.disk_model.specs.declared.store.Span.{Span}
use Rattle.disk_model.specs.Images.{overwritten, bytes_at, is_within, covers}
use Rattle.disk_model.specs.Store.{AreInRange, SameOutside, bytes_in, put_back, durable_of}
use Rattle.disk_model.proofs.Spans.{within_bounds, put_within, put_outside, length-overwritten, covers-none}

later_in : (span : Span) (spans : List Span) (n : ℕ) → AreInRange (span ∷ spans) n → AreInRange spans n
later_in span spans n all = λ i d lt. all (suc i) d (omega (arith, lt))

first_in : (span : Span) (spans : List Span) (n : ℕ) → AreInRange (span ∷ spans) n → span.at + span.len ≤ n
first_in span spans n all = all zero span (omega arith)

pub bytes-push : (spans : List Span) (span : Span) → bytes_in (spans ++ span ∷ []) ≡ bytes_in spans + span.len
bytes-push [] span = omega arith
bytes-push (x ∷ xs) span = omega (arith, bytes-push xs span)

pub length-put_back : (spans : List Span) (before seen : List ℕ) → AreInRange spans (length seen) → length before ≡ bytes_in spans → length (put_back spans before seen) ≡ length seen
length-put_back [] before seen all kept = refl
length-put_back (x ∷ xs) before seen all kept =
    let rest = length-put_back xs (drop x.len before) seen (later_in x xs (length seen) all) (omega (arith, kept, length-drop x.len before)) in
    let first = first_in x xs (length seen) all in
    length-overwritten (put_back xs (drop x.len before) seen) x.at (take x.len before) (omega (arith, rest, first, kept, length-take-le x.len before (omega (arith, kept)))) ∙ rest

pub outside-put_back : (spans : List Span) (before seen : List ℕ) → AreInRange spans (length seen) → length before ≡ bytes_in spans → SameOutside spans (put_back spans before seen) seen
outside-put_back [] before seen all kept = λ k none. refl
outside-put_back (x ∷ xs) before seen all kept = λ k none.
    let both = covers-none (x ∷ []) xs k none in
    let later = later_in x xs (length seen) all in
    let left : length (drop x.len before) ≡ bytes_in xs = omega (arith, kept, length-drop x.len before) in
    let long : length (take x.len before) ≡ x.len = length-take-le x.len before (omega (arith, kept)) in
    let rest = length-put_back xs (drop x.len before) seen later left in
    put_outside x.at (put_back xs (drop x.len before) seen) (take x.len before) k (omega (arith, rest, first_in x xs (length seen) all, long)) (ap (λ (n : ℕ). is_within x.at n k) long ∙ is_out (is_within x.at x.len k) both.0)
    ∙ outside-put_back xs (drop x.len before) seen later left k both.1
  where
    is_out : (b : Bool) → ◌≡◌ {A = Bool} (b || false) false → b ≡ false
    is_out true none = absurd (true≢false none)
    is_out false none = refl

-- what stood in the last range is put back first
pub put_back-push : (spans : List Span) (span : Span) (before more seen : List ℕ) → length before ≡ bytes_in spans → length more ≡ span.len
    → put_back (spans ++ span ∷ []) (before ++ more) seen ≡ put_back spans before (overwritten seen span.at more)
put_back-push [] span [] more seen kept long = ap (λ (l : List ℕ). overwritten seen span.at l) (take_all span.len more (omega (arith, long)))
put_back-push [] span (b ∷ before) more seen kept long = absurd (omega (arith, kept))
put_back-push (x ∷ xs) span before more seen kept long =
    let fits : x.len ≤ length before = omega (arith, kept) in
    let later = put_back-push xs span (drop x.len before) more seen (omega (arith, kept, length-drop x.len before)) long in
    ap (λ (l : List ℕ). overwritten (put_back (xs ++ span ∷ []) (drop x.len (before ++ more)) seen) x.at l) (take-append-le x.len before more fits)
    ∙ ap (λ (l : List ℕ). overwritten (put_back (xs ++ span ∷ []) l seen) x.at (take x.len before)) (drop-append-le x.len before more fits)
    ∙ ap (λ (l : List ℕ). overwritten l x.at (take x.len before)) later

module _ (seen bytes : List ℕ) (at : ℕ) (fits : at + length bytes ≤ length seen) where
  abbrev old : List ℕ
  old = bytes_at seen at (length bytes)

  pub length-old : length old ≡ length bytes
  length-old = omega (arith, fits, length-take (length bytes) (drop at seen), length-drop at seen)

  -- what stood where bytes are written, put back
  pub written_back : overwritten (overwritten seen at bytes) at old ≡ seen
  written_back = same_lists (overwritten (overwritten seen at bytes) at old) seen (again ∙ once) (λ k d lt.
      get_or_default (overwritten (overwritten seen at bytes) at old) k d 0 lt
      ∙ ⊎_elim (here k) (beside k) (cases_Bool (is_within at (length bytes) k))
      ∙ get_or_default seen k 0 d (omega (arith, lt, again, once)))
    where
      once : length (overwritten seen at bytes) ≡ length seen
      once = length-overwritten seen at bytes fits

      fits_old : at + length old ≤ length (overwritten seen at bytes)
      fits_old = omega (arith, fits, once, length-old)

      again : length (overwritten (overwritten seen at bytes) at old) ≡ length (overwritten seen at bytes)
      again = length-overwritten (overwritten seen at bytes) at old fits_old

      here : (k : ℕ) → is_within at (length bytes) k ≡ true → get_or (overwritten (overwritten seen at bytes) at old) k 0 ≡ get_or seen k 0
      here k is =
          let low = (within_bounds at (length bytes) k is).0 in
          let high = (within_bounds at (length bytes) k is).1 in
          put_within at (overwritten seen at bytes) old k fits_old (ap (λ (n : ℕ). is_within at n k) length-old ∙ is)
          ∙ get_or-take (length bytes) (drop at seen) (k - at) 0 (omega arith)
          ∙ get_or-drop at seen (k - at) 0
          ∙ (let e : at + (k - at) ≡ k = omega arith in ap (λ (n : ℕ). get_or seen n 0) e)

      beside : (k : ℕ) → is_within at (length bytes) k ≡ false → get_or (overwritten (overwritten seen at bytes) at old) k 0 ≡ get_or seen k 0
      beside k out =
          put_outside at (overwritten seen at bytes) old k fits_old (ap (λ (n : ℕ). is_within at n k) length-old ∙ out)
          ∙ put_outside at seen bytes k fits out

-- what stands in a range, written there
pub put_same : (seen : List ℕ) (at n : ℕ) → at + n ≤ length seen → overwritten seen at (bytes_at seen at n) ≡ seen
put_same seen at n fits =
    let long : length (bytes_at seen at n) ≡ n = omega (arith, fits, length-take n (drop at seen), length-drop at seen) in
    ap (λ (m : ℕ). take at seen ++ (take n (drop at seen) ++ drop (at + m) seen)) long
    ∙ ap (λ (l : List ℕ). take at seen ++ (take n (drop at seen) ++ l)) (sym (drop-drop n at seen))
    ∙ ap (λ (l : List ℕ). take at seen ++ l) (take-append-drop n (drop at seen))
    ∙ take-append-drop at seen

-- a range that waits beside others, of which what stood there is kept
pub length-more : (seen : List ℕ) (span : Span) → span.at + span.len ≤ length seen → length (bytes_at seen span.at span.len) ≡ span.len
length-more seen span fits = omega (arith, fits, length-take span.len (drop span.at seen), length-drop span.at seen)

pub kept-push : (spans : List Span) (span : Span) (before seen : List ℕ) → length before ≡ bytes_in spans → span.at + span.len ≤ length seen → length (before ++ bytes_at seen span.at span.len) ≡ bytes_in (spans ++ span ∷ [])
kept-push spans span before seen kept fits = omega (arith, length-append before (bytes_at seen span.at span.len), length-more seen span fits, kept, bytes-push spans span)

-- what is durable stays so when the range is written
pub durable_written : (spans : List Span) (span : Span) (before seen bytes : List ℕ) → length before ≡ bytes_in spans → length bytes ≡ span.len → span.at + span.len ≤ length seen
    → put_back (spans ++ span ∷ []) (before ++ bytes_at seen span.at span.len) (overwritten seen span.at bytes) ≡ put_back spans before seen
durable_written spans span before seen bytes kept long fits =
    put_back-push spans span before (bytes_at seen span.at span.len) (overwritten seen span.at bytes) kept (length-more seen span fits)
    ∙ ap (λ (l : List ℕ). put_back spans before l) (ap (λ (n : ℕ). overwritten (overwritten seen span.at bytes) span.at (bytes_at seen span.at n)) (sym long) ∙ written_back seen bytes span.at (omega (arith, fits, long)))

-- and where nothing is written
pub durable_marked : (spans : List Span) (span : Span) (before seen : List ℕ) → length before ≡ bytes_in spans → span.at + span.len ≤ length seen → put_back (spans ++ span ∷ []) (before ++ bytes_at seen span.at span.len) seen ≡ put_back spans before seen
durable_marked spans span before seen kept fits =
    let more = bytes_at seen span.at span.len in
    put_back-push spans span before more seen kept (length-more seen span fits)
    ∙ ap (λ (l : List ℕ). put_back spans before l) (put_same seen span.at span.len fits)

-- all bytes of another disk as long
pub whole_over : (to from : List ℕ) (n : ℕ) → length from ≡ length to → n ≡ length from → overwritten to 0 (bytes_at from 0 n) ≡ from
whole_over to from n long is =
    let all : take n from ≡ from = take_all n from (omega (arith, is)) in
    let end : 0 + length (take n from) ≡ length from = omega (arith, ap (λ (l : List ℕ). length l) all) in
    ap (λ (m : ℕ). take n from ++ drop m to) end
    ∙ ap (λ (l : List ℕ). l ++ drop (length from) to) all
    ∙ ap (λ (l : List ℕ). from ++ l) (drop_all (length from) to (omega (arith, long)))
    ∙ append-nil from

-- the first of these ranges is within bytes of the same number
pub fits_first : (spans : List Span) (d : Span) (before seen now : List ℕ) → 1 ≤ length spans → AreInRange spans (length seen) → length now ≡ length seen → (get_or spans 0 d).at + length (take (get_or spans 0 d).len before) ≤ length now
fits_first spans d before seen now some all long =
    let span = get_or spans 0 d in
    let fits : span.at + span.len ≤ length seen = all 0 d (omega (arith, some)) in
    omega (arith, fits, long, length-take span.len before)

-- ---- what is durable may be kept apart ----

-- what is kept with the range
pub more_kept : (is_apart : Bool) (spans : List Span) (span : Span) (before seen : List ℕ) → (is_apart ≡ false → length before ≡ bytes_in spans) → span.at + span.len ≤ length seen
    → is_apart ≡ false → length (cond is_apart before (before ++ bytes_at seen span.at span.len)) ≡ bytes_in (spans ++ span ∷ [])
more_kept true spans span before seen kept fits not = absurd (true≢false not)
more_kept false spans span before seen kept fits not = kept-push spans span before seen (kept refl) fits

pub more_in_room : (is_apart : Bool) (span : Span) (before seen : List ℕ) (n : ℕ) → length before ≤ n → (is_apart ≡ false → length before + span.len ≤ n) → span.at + span.len ≤ length seen
    → length (cond is_apart before (before ++ bytes_at seen span.at span.len)) ≤ n
more_in_room true span before seen n old more fits = old
more_in_room false span before seen n old more fits = omega (arith, more refl, length-append before (bytes_at seen span.at span.len), length-more seen span fits)

pub same_later : (is_apart : Bool) (durable : List ℕ) (spans : List Span) (span : Span) (before seen bytes : List ℕ) → (is_apart ≡ false → length before ≡ bytes_in spans) → length bytes ≡ span.len → span.at + span.len ≤ length seen
    → durable_of is_apart durable (spans ++ span ∷ []) (cond is_apart before (before ++ bytes_at seen span.at span.len)) (overwritten seen span.at bytes) ≡ durable_of is_apart durable spans before seen
same_later true durable spans span before seen bytes kept long fits = refl
same_later false durable spans span before seen bytes kept long fits = durable_written spans span before seen bytes (kept refl) long fits

pub same_marked : (is_apart : Bool) (durable : List ℕ) (spans : List Span) (span : Span) (before seen : List ℕ) → (is_apart ≡ false → length before ≡ bytes_in spans) → span.at + span.len ≤ length seen
    → durable_of is_apart durable (spans ++ span ∷ []) (cond is_apart before (before ++ bytes_at seen span.at span.len)) seen ≡ durable_of is_apart durable spans before seen
same_marked true durable spans span before seen kept fits = refl
same_marked false durable spans span before seen kept fits = durable_marked spans span before seen (kept refl) fits

-- the same, by what is told of the ranges and of what is kept
pub same_kept : (is_apart : Bool) (durable : List ℕ) (spans : List Span) (span : Span) (before seen : List ℕ) (more : List Span) (held : List ℕ) → (is_apart ≡ false → length before ≡ bytes_in spans) → span.at + span.len ≤ length seen
    → more ≡ spans ++ span ∷ [] → held ≡ cond is_apart before (before ++ bytes_at seen span.at span.len) → durable_of is_apart durable more held seen ≡ durable_of is_apart durable spans before seen
same_kept is_apart durable spans span before seen more held kept fits waits holds =
    (λ i. durable_of is_apart durable (waits i) (holds i) seen) ∙ same_marked is_apart durable spans span before seen kept fits
