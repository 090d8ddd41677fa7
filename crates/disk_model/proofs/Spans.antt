-- Bytes within a range and outside it, and lists of ranges.
use Rattle.std.proofs.Common.{◌≡◌, ◌⊎◌, inl, inr, ⊎_elim, ℕ, ◌+◌, ◌-◌, ◌≤◌, ◌<◌, Bool, true, false, cond, ◌||◌, List, [], ◌∷◌, ◌++◌, length, take, drop, get_or, replicate, refl, sym, ◌∙◌, ap, arith, length-append, length-take, length-drop}
use Rattle.std.proofs.lemmas.Bool.{cases_Bool, true≢false}
use Rattle.std.proofs.lemmas.Bool.Decides.{nat_tests}
use Rattle.std.proofs.lemmas.List.{places, drop_more, take_more, same_lists, get_or-replicate, length-replicate, drop_all, get_or_default, get_or-take, get_or-drop}
use Rattle.std.proofs.lemmas.Grind.{common_steps}
use borrow.Rule.Slice.PartMut.{put_mid}
use Rattle.disk_model.specs.declared.store.Span.{Span}
use Rattle.disk_model.specs.Images.{overwritten, is_within, covers}
use Rattle.disk_model.specs.Store.{SameOutside, AreInRange}

pub within_bounds : (a n k : ℕ) → is_within a n k ≡ true → (a ≤ k) × (k < a + n)
within_bounds a n k is = (grind (arith, nat_tests), grind (arith, nat_tests))

pub outside_bounds : (a n k : ℕ) → is_within a n k ≡ false → (k < a) ⊎ (a + n ≤ k)
outside_bounds a n k is = grind (arith, nat_tests)

pub is_outside : (a n k : ℕ) → (k < a) ⊎ (a + n ≤ k) → is_within a n k ≡ false
is_outside a n k (inl below) = grind (arith, nat_tests)
is_outside a n k (inr above) = grind (arith, nat_tests)

pub length-overwritten : (xs : List ℕ) (a : ℕ) (ys : List ℕ) → a + length ys ≤ length xs → length (overwritten xs a ys) ≡ length xs
length-overwritten xs a ys fits = omega (arith, length-append (take a xs) (ys ++ drop (a + length ys) xs), length-append ys (drop (a + length ys) xs), length-take a xs, length-drop (a + length ys) xs)

pub put_within : (a : ℕ) (xs ys : List ℕ) (k : ℕ) → a + length ys ≤ length xs → is_within a (length ys) k ≡ true → get_or (overwritten xs a ys) k 0 ≡ get_or ys (k - a) 0
put_within a xs ys k fits is =
    let low = (within_bounds a (length ys) k is).0 in
    let high = (within_bounds a (length ys) k is).1 in
    grind (arith, places)

pub put_outside : (a : ℕ) (xs ys : List ℕ) (k : ℕ) → a + length ys ≤ length xs → is_within a (length ys) k ≡ false → get_or (overwritten xs a ys) k 0 ≡ get_or xs k 0
put_outside a xs ys k fits is = ⊎_elim (λ below. grind (arith, places)) (λ above. grind (arith, places)) (outside_bounds a (length ys) k is)

pub covers-append : (xs ys : List Span) (k : ℕ) → covers (xs ++ ys) k ≡ (covers xs k || covers ys k)
covers-append [] ys k = refl
covers-append (x ∷ xs) ys k = ap (λ (b : Bool). is_within x.at x.len k || b) (covers-append xs ys k) ∙ step (is_within x.at x.len k)
  where
    step : (b : Bool) → (b || (covers xs k || covers ys k)) ≡ ((b || covers xs k) || covers ys k)
    step true = refl
    step false = refl

-- a place outside some ranges is outside each
pub covers-none : (xs ys : List Span) (k : ℕ) → covers (xs ++ ys) k ≡ false → (covers xs k ≡ false) × (covers ys k ≡ false)
covers-none xs ys k none = both (covers xs k) (covers ys k) (sym (covers-append xs ys k) ∙ none)
  where
    both : (a b : Bool) → (a || b) ≡ false → (a ≡ false) × (b ≡ false)
    both true b no' = absurd (true≢false no')
    both false b no' = (refl, no')

pub covers-one : (x : Span) (k : ℕ) → covers (x ∷ []) k ≡ is_within x.at x.len k
covers-one x k = step (is_within x.at x.len k)
  where
    step : (b : Bool) → (b || false) ≡ b
    step true = refl
    step false = refl

pub in_range_push : (spans : List Span) (span : Span) (n : ℕ) → AreInRange spans n → span.at + span.len ≤ n → AreInRange (spans ++ span ∷ []) n
in_range_push spans span n all fits = λ k d lt. grind (arith, common_steps)

or_true : (b : Bool) → (b || true) ≡ true
or_true true = refl
or_true false = refl

or_false : (b : Bool) → (b || false) ≡ b
or_false true = refl
or_false false = refl

-- one range more is filled
pub fill_more_spans : (old to : List ℕ) (spans : List Span) (i byte : ℕ) (span : Span) → i < length spans → span ≡ get_or spans i span → span.at + span.len ≤ length to
    → ((k : ℕ) → get_or to k 0 ≡ cond (covers (take i spans) k) byte (get_or old k 0))
    → (k : ℕ) → get_or (overwritten to span.at (replicate span.len byte)) k 0 ≡ cond (covers (take (i + 1) spans) k) byte (get_or old k 0)
fill_more_spans old to spans i byte span lt is_span fits so_far k = ⊎_elim here there (cases_Bool (is_within span.at span.len k))
  where
    piece_is : length (replicate span.len byte) ≡ span.len
    piece_is = length-replicate span.len byte

    fits_to : span.at + length (replicate span.len byte) ≤ length to
    fits_to = omega (arith, fits, piece_is)

    split : covers (take (i + 1) spans) k ≡ (covers (take i spans) k || is_within span.at span.len k)
    split = ap (λ (l : List Span). covers l k) (take_more spans i span lt) ∙ ap (λ (s : Span). covers (take i spans ++ s ∷ []) k) (sym is_span) ∙ covers-append (take i spans) (span ∷ []) k ∙ ap (λ (b : Bool). covers (take i spans) k || b) (covers-one span k)

    here : is_within span.at span.len k ≡ true → get_or (overwritten to span.at (replicate span.len byte)) k 0 ≡ cond (covers (take (i + 1) spans) k) byte (get_or old k 0)
    here is =
        let low = (within_bounds span.at span.len k is).0 in
        let high = (within_bounds span.at span.len k is).1 in
        put_within span.at to (replicate span.len byte) k fits_to (ap (λ (n : ℕ). is_within span.at n k) piece_is ∙ is)
        ∙ get_or-replicate span.len (k - span.at) byte 0 (omega arith)
        ∙ ap (λ (b : Bool). cond b byte (get_or old k 0)) (sym (split ∙ ap (λ (b : Bool). covers (take i spans) k || b) is ∙ or_true (covers (take i spans) k)))

    there : is_within span.at span.len k ≡ false → get_or (overwritten to span.at (replicate span.len byte)) k 0 ≡ cond (covers (take (i + 1) spans) k) byte (get_or old k 0)
    there is =
        put_outside span.at to (replicate span.len byte) k fits_to (ap (λ (n : ℕ). is_within span.at n k) piece_is ∙ is)
        ∙ so_far k
        ∙ ap (λ (b : Bool). cond b byte (get_or old k 0)) (sym (split ∙ ap (λ (b : Bool). covers (take i spans) k || b) is ∙ or_false (covers (take i spans) k)))

-- what is synced stays so beside one range more
pub synced_push : (spans : List Span) (span : Span) (durable seen : List ℕ) → SameOutside spans durable seen → SameOutside (spans ++ span ∷ []) durable seen
synced_push spans span durable seen synced = λ k none. synced k (covers-none spans (span ∷ []) k none).0

-- and after a write to the last of these ranges
pub synced_write : (spans : List Span) (span : Span) (durable seen bytes : List ℕ) → length bytes ≡ span.len → span.at + span.len ≤ length seen → SameOutside (spans ++ span ∷ []) durable seen → SameOutside (spans ++ span ∷ []) durable (overwritten seen span.at bytes)
synced_write spans span durable seen bytes long fits synced = λ k none.
    let out : is_within span.at span.len k ≡ false = sym (covers-one span k) ∙ (covers-none spans (span ∷ []) k none).1 in
    synced k none ∙ sym (put_outside span.at seen bytes k (omega (arith, long, fits)) (ap (λ (n : ℕ). is_within span.at n k) long ∙ out))
