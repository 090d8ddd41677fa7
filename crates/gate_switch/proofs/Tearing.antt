-- Bytes that are torn within a range, and bytes that are written over others.
use Rattle.std.proofs.Common.{◌≡◌, ◌⊎◌, ℕ, ◌+◌, ◌-◌, ◌≤◌, ◌<◌, false, List, ◌++◌, length, take, drop, get_or, refl, sym, ◌∙◌, ap, arith, inl, inr, length-take, length-drop}
use Rattle.std.proofs.lemmas.Bool.Decides.{nat_tests}
use Rattle.std.proofs.lemmas.List.{get_or-append_right, get_or_append_left, same_lists, get_or-take, get_or-drop, get_or_default}
use Rattle.disk_model.specs.Images.{overwritten, bytes_at, is_within, Torn}
use Rattle.gate_switch.proofs.Pieces.{length-overwritten}

-- images that agree in a range
pub same_bytes : (a b : List ℕ) (at n : ℕ) → length b ≡ length a → ((k : ℕ) → k < n → get_or b (at + k) 0 ≡ get_or a (at + k) 0) → bytes_at b at n ≡ bytes_at a at n
same_bytes a b at n long same = same_lists (bytes_at b at n) (bytes_at a at n) lengths (λ k d lt. here k d lt)
  where
    lengths : length (bytes_at b at n) ≡ length (bytes_at a at n)
    lengths = omega (arith, length-take n (drop at a), length-take n (drop at b), length-drop at a, length-drop at b, long)

    here : (k : ℕ) (d : ℕ) → k < length (bytes_at b at n) → get_or (bytes_at b at n) k d ≡ get_or (bytes_at a at n) k d
    here k d lt =
        let below : k < n = omega (arith, length-take n (drop at b)) in
        get_or_default (bytes_at b at n) k d 0 lt
        ∙ get_or-take n (drop at b) k 0 below ∙ get_or-drop at b k 0 ∙ same k below ∙ sym (get_or-drop at a k 0) ∙ sym (get_or-take n (drop at a) k 0 below)
        ∙ get_or_default (bytes_at a at n) k 0 d (omega (arith, lengths))

pub torn_stays : (at n : ℕ) (c : List ℕ) → Torn at n c c
torn_stays at n c = record { long = refl; outside = λ k out. refl }

pub torn_joins : (at n : ℕ) (a b c : List ℕ) → Torn at n a b → Torn at n b c → Torn at n a c
torn_joins at n a b c first then = record { long = then.long ∙ first.long; outside = λ k out. then.outside k out ∙ first.outside k out }

outside_less : (at n low m k : ℕ) → low ≤ at → at + n ≤ low + m → is_within low m k ≡ false → is_within at n k ≡ false
outside_less at n low m k under over out = grind (arith, nat_tests)

pub torn_widens : (at n low m : ℕ) → low ≤ at → at + n ≤ low + m → (a b : List ℕ) → Torn at n a b → Torn low m a b
torn_widens at n low m under over a b torn = record { long = torn.long; outside = λ k out. torn.outside k (outside_less at n low m k under over out) }

pub is_outside : (at n k : ℕ) → (k < at) ⊎ (at + n ≤ k) → is_within at n k ≡ false
is_outside at n k h = grind (arith, nat_tests)

pub torn_below : (at n : ℕ) (a b : List ℕ) → Torn at n a b → (k : ℕ) → k < at → get_or b k 0 ≡ get_or a k 0
torn_below at n a b torn k lt = torn.outside k (is_outside at n k (inl lt))

pub torn_above : (at n : ℕ) (a b : List ℕ) → Torn at n a b → (k : ℕ) → at + n ≤ k → get_or b k 0 ≡ get_or a k 0
torn_above at n a b torn k le = torn.outside k (is_outside at n k (inr le))

-- the bytes that were written
pub put_inside : (xs : List ℕ) (a : ℕ) (ys : List ℕ) (k : ℕ) → a + length ys ≤ length xs → k < length ys → get_or (overwritten xs a ys) (a + k) 0 ≡ get_or ys k 0
put_inside xs a ys k fits lt =
    let long : length (take a xs) ≡ a = omega (arith, length-take a xs) in
    let e : a + k - a ≡ k = omega arith in
    get_or-append_right (take a xs) (ys ++ drop (a + length ys) xs) a (a + k) 0 long (omega arith)
    ∙ ap (λ (n : ℕ). get_or (ys ++ drop (a + length ys) xs) n 0) e
    ∙ get_or_append_left ys (drop (a + length ys) xs) 0 k lt

pub written_there : (xs : List ℕ) (a : ℕ) (ys : List ℕ) → a + length ys ≤ length xs → bytes_at (overwritten xs a ys) a (length ys) ≡ ys
written_there xs a ys fits =
    let all = overwritten xs a ys in
    let long = length-overwritten xs a ys fits in
    let count : length (bytes_at all a (length ys)) ≡ length ys = omega (arith, length-take (length ys) (drop a all), length-drop a all) in
    same_lists (bytes_at all a (length ys)) ys count (λ k d lt.
    let below : k < length ys = omega (arith, count) in
    get_or_default (bytes_at all a (length ys)) k d 0 lt
    ∙ get_or-take (length ys) (drop a all) k 0 below ∙ get_or-drop a all k 0 ∙ put_inside xs a ys k fits below
    ∙ get_or_default ys k 0 d below)

-- bytes beside a torn range
pub bytes_below : (at n : ℕ) (a b : List ℕ) → Torn at n a b → (from count : ℕ) → from + count ≤ at → bytes_at b from count ≡ bytes_at a from count
bytes_below at n a b torn from count le = same_bytes a b from count torn.long (λ k lt. torn_below at n a b torn (from + k) (omega arith))

-- bytes that stand one by one
pub bytes_are : (image bytes : List ℕ) (at : ℕ) → at + length bytes ≤ length image → ((k : ℕ) → k < length bytes → get_or image (at + k) 0 ≡ get_or bytes k 0) → bytes_at image at (length bytes) ≡ bytes
bytes_are image bytes at fits each =
    let count : length (bytes_at image at (length bytes)) ≡ length bytes = omega (arith, length-take (length bytes) (drop at image), length-drop at image) in
    same_lists (bytes_at image at (length bytes)) bytes count (λ k d lt.
    let below : k < length bytes = omega (arith, count) in
    get_or_default (bytes_at image at (length bytes)) k d 0 lt ∙ get_or-take (length bytes) (drop at image) k 0 below ∙ get_or-drop at image k 0 ∙ each k below ∙ get_or_default bytes k 0 d below)
