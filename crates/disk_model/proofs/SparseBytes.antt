-- The bytes in chunks, place by place.
use Rattle.std.proofs.Common.{◌≡◌, ◌≢◌, ◌⊎◌, inl, inr, ⊎_elim, ℕ, zero, suc, ◌+◌, ◌-◌, ◌*◌, ◌/◌, ◌%◌, ◌≤◌, ◌<◌, Bool, true, false, cond, List, [], ◌∷◌, ◌++◌, length, take, drop, set, get_or, replicate, refl, sym, ◌∙◌, ap, arith, length-take, length-drop}
use Rattle.std.proofs.lemmas.Bool.{cases_Bool, cases_eq}
use Rattle.std.proofs.lemmas.Bool.Decides.{nat_tests}
use Rattle.std.proofs.lemmas.Nat.{div-add-mod', mod_below}
use Rattle.std.proofs.lemmas.List.{same_lists, get_or-set_same, get_or-set_other, get_or-replicate, get_or_past, get_or-take, get_or-drop, get_or_default, length-replicate, take-append-drop, length-take-le, take-replicate, drop-replicate}
use Rattle.disk_model.specs.Images.{overwritten, is_within, bytes_at}
use Rattle.disk_model.specs.SparseBytes.{byte_at, bytes_of}
use Rattle.disk_model.proofs.Spans.{within_bounds, outside_bounds, is_outside, length-overwritten, put_within, put_outside}

pub length-bytes_of : (chunks : List (List ℕ)) (k n : ℕ) → length (bytes_of chunks k n) ≡ n
length-bytes_of chunks k zero = refl
length-bytes_of chunks k (suc n) = ap suc (length-bytes_of chunks (suc k) n)

pub get_or-bytes_of : (chunks : List (List ℕ)) (k n i d : ℕ) → i < n → get_or (bytes_of chunks k n) i d ≡ byte_at chunks (k + i)
get_or-bytes_of chunks k zero i d lt = absurd (omega (arith, lt))
get_or-bytes_of chunks k (suc n) zero d lt = let e : k ≡ k + zero = omega arith in ap (byte_at chunks) e
get_or-bytes_of chunks k (suc n) (suc i) d lt = get_or-bytes_of chunks (suc k) n i d (omega (arith, lt)) ∙ (let e : suc k + i ≡ k + suc i = omega arith in ap (byte_at chunks) e)

-- a place that begins within the bytes is in a chunk
pub chunk_of : (chunks : List (List ℕ)) (n at : ℕ) (all : List ℕ) → bytes_of chunks 0 n ≡ all → n < 1048576 * length chunks → at ≤ length all → at / 1048576 < length chunks
chunk_of chunks n at all is room le = omega (arith, div-add-mod' at 1048576, room, le, ap length is, length-bytes_of chunks 0 n)

-- the chunk and the place in it of a place that is so far behind another in the same chunk
same_chunk : (at i : ℕ) → at % 1048576 + i < 1048576 → ((at + i) / 1048576 ≡ at / 1048576) × ((at + i) % 1048576 ≡ at % 1048576 + i)
same_chunk at i inside = (omega (arith, div-add-mod' at 1048576, div-add-mod' (at + i) 1048576, mod_below (at + i) 1048576 (omega arith), inside), omega (arith, div-add-mod' at 1048576, div-add-mod' (at + i) 1048576, mod_below (at + i) 1048576 (omega arith), inside))

-- of one that is at or behind it
behind : (at k : ℕ) → at ≤ k → at % 1048576 + (k - at) < 1048576 → (k / 1048576 ≡ at / 1048576) × (k % 1048576 ≡ at % 1048576 + (k - at))
behind at k le inside =
    let e : at + (k - at) ≡ k = omega (arith, le) in
    let both = same_chunk at (k - at) inside in
    (ap (λ (n : ℕ). n / 1048576) (sym e) ∙ both.0, ap (λ (n : ℕ). n % 1048576) (sym e) ∙ both.1)

pub byte_is : (chunks : List (List ℕ)) (n at : ℕ) (all : List ℕ) → bytes_of chunks 0 n ≡ all → at < length all → byte_at chunks at ≡ get_or all at 0
byte_is chunks n at all is lt = sym (get_or-bytes_of chunks 0 n at 0 (omega (arith, lt, ap length is, length-bytes_of chunks 0 n)) ∙ ap (byte_at chunks) (let e : 0 + at ≡ at = omega arith in e)) ∙ ap (λ (l : List ℕ). get_or l at 0) is

-- the bytes of a range that falls into one chunk
pub range_is : (chunks : List (List ℕ)) (n at len : ℕ) (all piece : List ℕ) → bytes_of chunks 0 n ≡ all → at + len ≤ length all → at % 1048576 + len ≤ 1048576 → length piece ≡ len
    → ((i : ℕ) → i < len → get_or piece i 0 ≡ get_or (get_or chunks (at / 1048576) []) (at % 1048576 + i) 0) → piece ≡ bytes_at all at len
range_is chunks n at len all piece is fits inside long each = same_lists piece (bytes_at all at len) (omega (arith, long, fits, length-take len (drop at all), length-drop at all)) same
  where
    same : (k d : ℕ) → k < length piece → get_or piece k d ≡ get_or (bytes_at all at len) k d
    same k d lt =
        let low : k < len = omega (arith, lt, long) in
        let place = same_chunk at k (omega (arith, low, inside)) in
        get_or_default piece k d 0 lt
        ∙ each k low
        ∙ sym (ap (λ (q : ℕ). get_or (get_or chunks q []) ((at + k) % 1048576) 0) place.0 ∙ ap (λ (r : ℕ). get_or (get_or chunks (at / 1048576) []) r 0) place.1)
        ∙ byte_is chunks n (at + k) all is (omega (arith, low, fits))
        ∙ get_or_default all (at + k) 0 d (omega (arith, low, fits))
        ∙ sym (get_or-take len (drop at all) k d low ∙ get_or-drop at all k d)

-- the bytes of a range that a chunk keeps
pub kept_range : (chunks : List (List ℕ)) (n at len : ℕ) (all : List ℕ) → bytes_of chunks 0 n ≡ all → at + len ≤ length all → at % 1048576 + len ≤ 1048576 → at % 1048576 + len ≤ length (get_or chunks (at / 1048576) [])
    → bytes_at (get_or chunks (at / 1048576) []) (at % 1048576) len ≡ bytes_at all at len
kept_range chunks n at len all is fits inside kept =
    let chunk = get_or chunks (at / 1048576) [] in
    range_is chunks n at len all (bytes_at chunk (at % 1048576) len) is fits inside (omega (arith, kept, length-take len (drop (at % 1048576) chunk), length-drop (at % 1048576) chunk))
    (λ i lt. get_or-take len (drop (at % 1048576) chunk) i 0 lt ∙ get_or-drop (at % 1048576) chunk i 0)

-- and of one behind what it keeps
pub blank_range : (chunks : List (List ℕ)) (n at len : ℕ) (all : List ℕ) → bytes_of chunks 0 n ≡ all → at + len ≤ length all → at % 1048576 + len ≤ 1048576 → length (get_or chunks (at / 1048576) []) ≤ at % 1048576
    → bytes_at all at len ≡ replicate len 0
blank_range chunks n at len all is fits inside blank =
    sym (range_is chunks n at len all (replicate len 0) is fits inside (length-replicate len 0)
    (λ i lt. get_or-replicate len i 0 0 lt ∙ sym (get_or_past (get_or chunks (at / 1048576) []) (at % 1048576 + i) 0 (omega (arith, blank)))))

-- a chunk is written within its bounds
pub chunk_written : (chunks : List (List ℕ)) (new : List ℕ) (n at : ℕ) (all bytes : List ℕ) → bytes_of chunks 0 n ≡ all → at / 1048576 < length chunks → at + length bytes ≤ length all → at % 1048576 + length bytes ≤ 1048576
    → ((k : ℕ) → get_or new k 0 ≡ cond (is_within (at % 1048576) (length bytes) k) (get_or bytes (k - at % 1048576) 0) (get_or (get_or chunks (at / 1048576) []) k 0))
    → bytes_of (set chunks (at / 1048576) new) 0 n ≡ overwritten all at bytes
chunk_written chunks new n at all bytes is there fits inside wrote = same_lists (bytes_of after 0 n) (overwritten all at bytes) (length-bytes_of after 0 n ∙ sym (length-overwritten all at bytes fits ∙ sym (ap length is) ∙ length-bytes_of chunks 0 n)) same
  where
    after : List (List ℕ)
    after = set chunks (at / 1048576) new

    here : (k : ℕ) → is_within at (length bytes) k ≡ true → byte_at after k ≡ get_or (overwritten all at bytes) k 0
    here k within =
        let low = (within_bounds at (length bytes) k within).0 in
        let high = (within_bounds at (length bytes) k within).1 in
        let place = behind at k low (omega (arith, high, inside)) in
        let inner : is_within (at % 1048576) (length bytes) (k % 1048576) ≡ true = grind (arith, nat_tests, place.1, low, high) in
        let shift : k % 1048576 - at % 1048576 ≡ k - at = omega (arith, place.1) in
        ap (λ (q : ℕ). get_or (get_or after q []) (k % 1048576) 0) place.0
        ∙ ap (λ (l : List ℕ). get_or l (k % 1048576) 0) (get_or-set_same chunks (at / 1048576) new [] there)
        ∙ wrote (k % 1048576)
        ∙ ap (λ (b : Bool). cond b (get_or bytes (k % 1048576 - at % 1048576) 0) (get_or (get_or chunks (at / 1048576) []) (k % 1048576) 0)) inner
        ∙ ap (λ (i : ℕ). get_or bytes i 0) shift
        ∙ sym (put_within at all bytes k fits within)

    kept : (k : ℕ) → k < length all → is_within at (length bytes) k ≡ false → byte_at chunks k ≡ get_or (overwritten all at bytes) k 0
    kept k lt out = byte_is chunks n k all is lt ∙ sym (put_outside at all bytes k fits out)

    beside : (k : ℕ) → k / 1048576 ≡ at / 1048576 → is_within at (length bytes) k ≡ false → byte_at after k ≡ byte_at chunks k
    beside k one out =
        let inner : is_within (at % 1048576) (length bytes) (k % 1048576) ≡ false = is_outside (at % 1048576) (length bytes) (k % 1048576) (apart (outside_bounds at (length bytes) k out)) in
        ap (λ (q : ℕ). get_or (get_or after q []) (k % 1048576) 0) one
        ∙ ap (λ (l : List ℕ). get_or l (k % 1048576) 0) (get_or-set_same chunks (at / 1048576) new [] there)
        ∙ wrote (k % 1048576)
        ∙ ap (λ (b : Bool). cond b (get_or bytes (k % 1048576 - at % 1048576) 0) (get_or (get_or chunks (at / 1048576) []) (k % 1048576) 0)) inner
        ∙ ap (λ (q : ℕ). get_or (get_or chunks q []) (k % 1048576) 0) (sym one)
      where
        apart : (k < at) ⊎ (at + length bytes ≤ k) → (k % 1048576 < at % 1048576) ⊎ (at % 1048576 + length bytes ≤ k % 1048576)
        apart (inl below) = inl (omega (arith, below, one, div-add-mod' at 1048576, div-add-mod' k 1048576))
        apart (inr above) = inr (omega (arith, above, one, div-add-mod' at 1048576, div-add-mod' k 1048576))

    elsewhere : (k : ℕ) → k / 1048576 ≢ at / 1048576 → byte_at after k ≡ byte_at chunks k
    elsewhere k other = ap (λ (l : List ℕ). get_or l (k % 1048576) 0) (get_or-set_other chunks (at / 1048576) (k / 1048576) new [] other)

    by_place : (k : ℕ) → k < length all → byte_at after k ≡ get_or (overwritten all at bytes) k 0
    by_place k lt = ⊎_elim (here k) (λ out. ⊎_elim (λ one. beside k one out) (elsewhere k) (cases_eq (k / 1048576) (at / 1048576)) ∙ kept k lt out) (cases_Bool (is_within at (length bytes) k))

    same : (k d : ℕ) → k < length (bytes_of after 0 n) → get_or (bytes_of after 0 n) k d ≡ get_or (overwritten all at bytes) k d
    same k d lt =
        let low : k < n = omega (arith, lt, length-bytes_of after 0 n) in
        let small : k < length all = omega (arith, low, ap length is, length-bytes_of chunks 0 n) in
        get_or-bytes_of after 0 n k d low
        ∙ ap (byte_at after) (let e : 0 + k ≡ k = omega arith in e)
        ∙ by_place k small
        ∙ get_or_default (overwritten all at bytes) k 0 d (omega (arith, small, length-overwritten all at bytes fits))

-- all chunks are new
pub blank_bytes : (m k n : ℕ) → bytes_of (replicate m []) k n ≡ replicate n 0
blank_bytes m k zero = refl
blank_bytes m k (suc n) = ap (λ (b : ℕ). b ∷ bytes_of (replicate m []) (suc k) n) (ap (λ (l : List ℕ). get_or l (k % 1048576) 0) (none m (k / 1048576))) ∙ ap (λ (l : List ℕ). 0 ∷ l) (blank_bytes m (suc k) n)
  where
    nothing : List ℕ
    nothing = []

    none : (m q : ℕ) → get_or (replicate m nothing) q nothing ≡ nothing
    none zero q = refl
    none (suc m) zero = refl
    none (suc m) (suc q) = none m q

is_inside : (a n k : ℕ) → a ≤ k → k < a + n → is_within a n k ≡ true
is_inside a n k low high = grind (arith, nat_tests)

-- nothing is written
pub overwritten-nil : (xs : List ℕ) (at : ℕ) → overwritten xs at [] ≡ xs
overwritten-nil xs at = let e : at + 0 ≡ at = omega arith in ap (λ (n : ℕ). take at xs ++ drop n xs) e ∙ take-append-drop at xs

-- a piece more is written
pub overwritten_more : (xs bytes : List ℕ) (at i n : ℕ) → i + n ≤ length bytes → at + length bytes ≤ length xs
    → overwritten (overwritten xs at (take i bytes)) (at + i) (take n (drop i bytes)) ≡ overwritten xs at (take (i + n) bytes)
overwritten_more xs bytes at i n inside fits = same_lists _ _ long (λ k d h. get_or_default _ k d 0 h ∙ ⊎_elim (within k) (outside k) (cases_Bool (is_within (at + i) (length piece) k)) ∙ get_or_default _ k 0 d (omega (arith, long, h)))
  where
    head : List ℕ
    head = take i bytes

    piece : List ℕ
    piece = take n (drop i bytes)

    more : List ℕ
    more = take (i + n) bytes

    head_long : length head ≡ i
    head_long = length-take-le i bytes (omega (arith, inside))

    piece_long : length piece ≡ n
    piece_long = length-take-le n (drop i bytes) (omega (arith, inside, length-drop i bytes))

    more_long : length more ≡ i + n
    more_long = length-take-le (i + n) bytes inside

    fits_head : at + length head ≤ length xs
    fits_head = omega (arith, head_long, inside, fits)

    fits_more : at + length more ≤ length xs
    fits_more = omega (arith, more_long, inside, fits)

    fits_piece : at + i + length piece ≤ length (overwritten xs at head)
    fits_piece = omega (arith, piece_long, inside, fits, length-overwritten xs at head fits_head)

    long : length (overwritten (overwritten xs at head) (at + i) piece) ≡ length (overwritten xs at more)
    long = length-overwritten (overwritten xs at head) (at + i) piece fits_piece ∙ length-overwritten xs at head fits_head ∙ sym (length-overwritten xs at more fits_more)

    within : (k : ℕ) → is_within (at + i) (length piece) k ≡ true → get_or (overwritten (overwritten xs at head) (at + i) piece) k 0 ≡ get_or (overwritten xs at more) k 0
    within k inner =
        let low = (within_bounds (at + i) (length piece) k inner).0 in
        let high = (within_bounds (at + i) (length piece) k inner).1 in
        let place : i + (k - (at + i)) ≡ k - at = omega (arith, low) in
        put_within (at + i) (overwritten xs at head) piece k fits_piece inner
        ∙ get_or-take n (drop i bytes) (k - (at + i)) 0 (omega (arith, low, high, piece_long))
        ∙ get_or-drop i bytes (k - (at + i)) 0
        ∙ ap (λ (j : ℕ). get_or bytes j 0) place
        ∙ sym (get_or-take (i + n) bytes (k - at) 0 (omega (arith, low, high, piece_long)))
        ∙ sym (put_within at xs more k fits_more (is_inside at (length more) k (omega (arith, low)) (omega (arith, high, piece_long, more_long))))

    outside : (k : ℕ) → is_within (at + i) (length piece) k ≡ false → get_or (overwritten (overwritten xs at head) (at + i) piece) k 0 ≡ get_or (overwritten xs at more) k 0
    outside k other = put_outside (at + i) (overwritten xs at head) piece k fits_piece other ∙ ⊎_elim before (away) (cases_Bool (is_within at (length head) k))
      where
        apart : (k < at) ⊎ (at + length head ≤ k) → (k < at + i) ⊎ (at + i + length piece ≤ k) → (k < at) ⊎ (at + length more ≤ k)
        apart (inl below) either = inl below
        apart (inr above) (inl under) = absurd (omega (arith, above, under, head_long))
        apart (inr above) (inr over) = inr (omega (arith, over, more_long, piece_long))

        before : is_within at (length head) k ≡ true → get_or (overwritten xs at head) k 0 ≡ get_or (overwritten xs at more) k 0
        before inner =
            let low = (within_bounds at (length head) k inner).0 in
            let high = (within_bounds at (length head) k inner).1 in
            put_within at xs head k fits_head inner
            ∙ get_or-take i bytes (k - at) 0 (omega (arith, low, high, head_long))
            ∙ sym (get_or-take (i + n) bytes (k - at) 0 (omega (arith, low, high, head_long)))
            ∙ sym (put_within at xs more k fits_more (is_inside at (length more) k low (omega (arith, high, head_long, more_long))))

        away : is_within at (length head) k ≡ false → get_or (overwritten xs at head) k 0 ≡ get_or (overwritten xs at more) k 0
        away other_too = put_outside at xs head k fits_head other_too ∙ sym (put_outside at xs more k fits_more (is_outside at (length more) k (apart (outside_bounds at (length head) k other_too) (outside_bounds (at + i) (length piece) k other))))

-- the same for what is written by now
pub piece_more : (xs bytes now new piece : List ℕ) (at i n : ℕ) → now ≡ overwritten xs at (take i bytes) → new ≡ overwritten now (at + i) piece → piece ≡ take n (drop i bytes) → i + n ≤ length bytes → at + length bytes ≤ length xs → new ≡ overwritten xs at (take (i + n) bytes)
piece_more xs bytes now new piece at i n so_far wrote is inside fits = wrote ∙ ap (λ (l : List ℕ). overwritten l (at + i) piece) so_far ∙ ap (λ (l : List ℕ). overwritten (overwritten xs at (take i bytes)) (at + i) l) is ∙ overwritten_more xs bytes at i n inside fits

-- a piece of a range
pub piece_of_range : (from : List ℕ) (at len i n : ℕ) → i + n ≤ len → at + len ≤ length from → bytes_at from (at + i) n ≡ take n (drop i (bytes_at from at len))
piece_of_range from at len i n inside fits = same_lists _ _ (omega (arith, left, right)) same
  where
    left : length (bytes_at from (at + i) n) ≡ n
    left = length-take-le n (drop (at + i) from) (omega (arith, inside, fits, length-drop (at + i) from))

    whole : length (bytes_at from at len) ≡ len
    whole = length-take-le len (drop at from) (omega (arith, fits, length-drop at from))

    right : length (take n (drop i (bytes_at from at len))) ≡ n
    right = length-take-le n (drop i (bytes_at from at len)) (omega (arith, inside, whole, length-drop i (bytes_at from at len)))

    same : (k d : ℕ) → k < length (bytes_at from (at + i) n) → get_or (bytes_at from (at + i) n) k d ≡ get_or (take n (drop i (bytes_at from at len))) k d
    same k d lt =
        let low : k < n = omega (arith, lt, left) in
        let place : at + i + k ≡ at + (i + k) = omega arith in
        get_or-take n (drop (at + i) from) k d low
        ∙ get_or-drop (at + i) from k d
        ∙ ap (λ (j : ℕ). get_or from j d) place
        ∙ sym (get_or-take n (drop i (bytes_at from at len)) k d low ∙ get_or-drop i (bytes_at from at len) k d ∙ get_or-take len (drop at from) (i + k) d (omega (arith, low, inside)) ∙ get_or-drop at from (i + k) d)

-- and of equal bytes
pub piece_of_equal : (m len i n byte : ℕ) → i + n ≤ len → n ≤ m → take n (replicate m byte) ≡ take n (drop i (replicate len byte))
piece_of_equal m len i n byte inside fits = take-replicate n m byte fits ∙ sym (ap (λ (l : List ℕ). take n l) (drop-replicate i len byte) ∙ take-replicate n (len - i) byte (omega (arith, inside)))

-- bytes within a chunk, place by place
pub put_places : (old bytes : List ℕ) (at k : ℕ) → at + length bytes ≤ length old → get_or (overwritten old at bytes) k 0 ≡ cond (is_within at (length bytes) k) (get_or bytes (k - at) 0) (get_or old k 0)
put_places old bytes at k fits =
    ⊎_elim
    (λ within. put_within at old bytes k fits within ∙ sym (ap (λ (b : Bool). cond b (get_or bytes (k - at) 0) (get_or old k 0)) within))
    (λ outside. put_outside at old bytes k fits outside ∙ sym (ap (λ (b : Bool). cond b (get_or bytes (k - at) 0) (get_or old k 0)) outside))
    (cases_Bool (is_within at (length bytes) k))
