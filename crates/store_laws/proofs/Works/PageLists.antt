-- Pages of contents, and lists of page numbers.
use Rattle.std.proofs.Common.{◌≡◌, ◌≢◌, ◌≤◌, ◌<◌, ℕ, zero, suc, ◌+◌, ◌-◌, ◌*◌, ◌==◌, min, nat_lt, Bool, true, false, ◌||◌, cond, List, [], ◌∷◌, ◌++◌, length, take, drop, filter, refl, sym, ◌∙◌, ap, subst, arith}
use Rattle.std.specs.Prelude.{slice_index}
use Rattle.std.proofs.lemmas.Bool.Decides.{nat_tests}
use Rattle.std.proofs.lemmas.List.{length-drop, length-take, take_min}
use Rattle.tree_laws.proofs.of_plain_facts.Numbers.{equal, equal_self}
use Rattle.tree_laws.proofs.of_plain_facts.Tests.{true_false}
use Rattle.locus_ids.specs.Sizes.{page_bytes}
use Rattle.file_content.specs.Pages.{has_page, page_of, pages_from, pages_of, pages_within, with_page, with_pages}
use Rattle.stored_versions.specs.Changes.{ArePages, IsKept}
use Rattle.store_laws.specs.Works.Working.{AreBelow, AreOnce}

-- ---- fronts and rests of lists ----

pub take_less : (m n : ℕ) (xs : List ℕ) → m ≤ n → take m (take n xs) ≡ take m xs
take_less zero n xs le = refl
take_less (suc m) zero xs le = absurd (omega (arith, le))
take_less (suc m) (suc n) [] le = refl
take_less (suc m) (suc n) (x ∷ xs) le = ap (λ (ys : List ℕ). x ∷ ys) (take_less m n xs (omega (arith, le)))

pub take_swap : (m n : ℕ) (xs : List ℕ) → take m (take n xs) ≡ take n (take m xs)
take_swap zero zero xs = refl
take_swap zero (suc n) xs = refl
take_swap (suc m) zero xs = refl
take_swap (suc m) (suc n) [] = refl
take_swap (suc m) (suc n) (x ∷ xs) = ap (λ (ys : List ℕ). x ∷ ys) (take_swap m n xs)

pub drop_front : (k n : ℕ) (xs : List ℕ) → drop k (take n xs) ≡ take (n - k) (drop k xs)
drop_front zero n xs = ap (λ (m : ℕ). take m xs) none
  where
    none : n ≡ n - 0
    none = omega arith
drop_front (suc k) zero xs = ap (λ (m : ℕ). take m (drop (suc k) xs)) none
  where
    none : 0 ≡ 0 - suc k
    none = omega arith
drop_front (suc k) (suc n) [] = empty (suc n - suc k)
  where
    empty : (m : ℕ) → ◌≡◌ {A = List ℕ} [] (take m [])
    empty zero = refl
    empty (suc m) = refl
drop_front (suc k) (suc n) (x ∷ xs) = drop_front k n xs ∙ ap (λ (m : ℕ). take m (drop k xs)) less
  where
    less : n - k ≡ suc n - suc k
    less = omega arith

pub drop_more : (a b : ℕ) (xs : List ℕ) → drop (a + b) xs ≡ drop b (drop a xs)
drop_more zero b xs = ap (λ (m : ℕ). drop m xs) none
  where
    none : 0 + b ≡ b
    none = omega arith
drop_more (suc a) b [] = empty (suc a + b) ∙ sym (empty b)
  where
    empty : (m : ℕ) → ◌≡◌ {A = List ℕ} (drop m []) []
    empty zero = refl
    empty (suc m) = refl
drop_more (suc a) b (x ∷ xs) = ap (λ (m : ℕ). drop m (x ∷ xs)) more ∙ drop_more a b xs
  where
    more : suc a + b ≡ suc (a + b)
    more = omega arith

-- ---- pages ----

pub page_length : (content : List ℕ) (page : ℕ) → length (page_of content page) ≡ min page_bytes (length content - page_bytes * page)
page_length content page = length-take page_bytes (drop (page_bytes * page) content) ∙ ap (min page_bytes) (length-drop (page_bytes * page) content)

pub page_there : (n page : ℕ) → page < pages_of n → page_bytes * page < n
page_there n page h = omega (arith, h)

pub there_page : (n page : ℕ) → page_bytes * page < n → page < pages_of n
there_page n page h = omega (arith, h)

same_kept : (old new : List ℕ) (page : ℕ) → page_of old page ≡ page_of new page → IsKept old new page
same_kept old new page e = subst (λ (ys : List ℕ). take (length (page_of new page)) ys ≡ page_of new page) (sym e) (all (page_of new page))
  where
    all : (ys : List ℕ) → take (length ys) ys ≡ ys
    all [] = refl
    all (y ∷ ys) = ap (λ (zs : List ℕ). y ∷ zs) (all ys)

pub kept_same : (old new : List ℕ) (page : ℕ) → page_of old page ≡ page_of new page → IsKept old new page
kept_same old new page e = same_kept old new page e

-- what is kept of a page is no longer than it was
pub kept_length : (old new : List ℕ) (page : ℕ) → IsKept old new page → length (page_of new page) ≤ length (page_of old page)
kept_length old new page k = within (length (page_of new page)) (length (page_of old page)) (sym (ap length k) ∙ length-take (length (page_of new page)) (page_of old page))
  where
    within : (a b : ℕ) → a ≡ min a b → a ≤ b
    within a b e = omega (arith, e)

pub kept_through : (a b d : List ℕ) (page : ℕ) → IsKept a b page → IsKept b d page → IsKept a d page
kept_through a b d page first then =
    sym (take_less (length (page_of d page)) (length (page_of b page)) (page_of a page) (kept_length b d page then))
    ∙ (ap (take (length (page_of d page))) first ∙ then)

-- a page that is kept was there
pub kept_there : (old new : List ℕ) (page : ℕ) → page < pages_of (length new) → IsKept old new page → page < pages_of (length old)
kept_there old new page inside k = there_page (length old) page (longer (length old) (length new) (page_bytes * page) (page_there (length new) page inside) lengths)
  where
    lengths : min page_bytes (length new - page_bytes * page) ≤ min page_bytes (length old - page_bytes * page)
    lengths = subst (λ (n : ℕ). n ≤ min page_bytes (length old - page_bytes * page)) (page_length new page) (subst (λ (n : ℕ). length (page_of new page) ≤ n) (page_length old page) (kept_length old new page k))

    longer : (o n k : ℕ) → k < n → min page_bytes (n - k) ≤ min page_bytes (o - k) → k < o
    longer o n k a b = omega (arith, a, b)

-- a cut keeps the pages that it leaves
pub cut_kept : (content : List ℕ) (len page : ℕ) → IsKept content (take len content) page
cut_kept content len page = subst (λ (ys : List ℕ). take (length ys) (page_of content page) ≡ ys) (sym it) (front (len - page_bytes * page) (page_of content page))
  where
    it : page_of (take len content) page ≡ take (len - page_bytes * page) (page_of content page)
    it = ap (take page_bytes) (drop_front (page_bytes * page) len content) ∙ take_swap page_bytes (len - page_bytes * page) (drop (page_bytes * page) content)

    front : (m : ℕ) (xs : List ℕ) → take (length (take m xs)) xs ≡ take m xs
    front m xs = ap (λ (n : ℕ). take n xs) (length-take m xs) ∙ take_min m xs

-- ---- lists of pages ----

pub has_in : (first count page : ℕ) → first ≤ page → page < first + count → has_page (pages_from first count) page ≡ true
has_in first zero page low high = absurd (omega (arith, low, high))
has_in first (suc count) page low high = over (first == page) refl (λ le. has_in (first + 1) count page le (omega (arith, high)))
  where
    apart : (first == page) ≡ false → first + 1 ≤ page
    apart e = grind (arith, nat_tests)

    over : (b : Bool) → (first == page) ≡ b → (first + 1 ≤ page → has_page (pages_from (first + 1) count) page ≡ true) → b || has_page (pages_from (first + 1) count) page ≡ true
    over true e later = refl
    over false e later = later (apart e)

pub from_below : (first count top : ℕ) → first + count ≤ top → AreBelow top (pages_from first count)
from_below first zero top le = tt
from_below first (suc count) top le = (omega (arith, le), from_below (first + 1) count top (omega (arith, le)))

-- what a filter passes over it has not
pub passed_over : (f : ℕ → Bool) (pages : List ℕ) (page : ℕ) → has_page pages page ≡ true → has_page (filter f pages) page ≡ false → f page ≡ false
passed_over f [] page h k = absurd (true_false (sym h))
passed_over f (p ∷ ps) page h k = over (p == page) refl h k (passed_over f ps page)
  where
    here : (b : Bool) → (p == page) ≡ true → has_page (cond b (p ∷ filter f ps) (filter f ps)) page ≡ false → b ≡ false
    here false e k = refl
    here true e k = absurd (true_false (sym (ap (λ (x : Bool). x || has_page (filter f ps) page) e) ∙ k))

    later : (b : Bool) → has_page (cond b (p ∷ filter f ps) (filter f ps)) page ≡ false → has_page (filter f ps) page ≡ false
    later false k = k
    later true k = second (p == page) k
      where
        second : (a : Bool) → a || has_page (filter f ps) page ≡ false → has_page (filter f ps) page ≡ false
        second false k = k
        second true k = absurd (true_false k)

    over : (a : Bool) → (p == page) ≡ a → a || has_page ps page ≡ true → has_page (filter f (p ∷ ps)) page ≡ false → (has_page ps page ≡ true → has_page (filter f ps) page ≡ false → f page ≡ false) → f page ≡ false
    over true e h k rest = subst (λ (q : ℕ). f q ≡ false) (equal p page e) (here (f p) e k)
    over false e h k rest = rest h (later (f p) k)

pub filter_below : (top : ℕ) (f : ℕ → Bool) (pages : List ℕ) → AreBelow top pages → AreBelow top (filter f pages)
filter_below top f [] h = tt
filter_below top f (p ∷ ps) h = over (f p) (filter_below top f ps h.1)
  where
    over : (b : Bool) → AreBelow top (filter f ps) → AreBelow top (cond b (p ∷ filter f ps) (filter f ps))
    over true later = (h.0, later)
    over false later = later

filter_lacks : (f : ℕ → Bool) (pages : List ℕ) (page : ℕ) → has_page pages page ≡ false → has_page (filter f pages) page ≡ false
filter_lacks f [] page h = refl
filter_lacks f (p ∷ ps) page h = over (p == page) refl h (f p) (filter_lacks f ps page)
  where
    over : (a : Bool) → (p == page) ≡ a → a || has_page ps page ≡ false → (b : Bool) → (has_page ps page ≡ false → has_page (filter f ps) page ≡ false) → has_page (cond b (p ∷ filter f ps) (filter f ps)) page ≡ false
    over true e h b rest = absurd (true_false h)
    over false e h true rest = ap (λ (x : Bool). x || has_page (filter f ps) page) e ∙ rest h
    over false e h false rest = rest h

pub filter_once : (f : ℕ → Bool) (pages : List ℕ) → AreOnce pages → AreOnce (filter f pages)
filter_once f [] h = tt
filter_once f (p ∷ ps) h = over (f p) (filter_once f ps h.1)
  where
    over : (b : Bool) → AreOnce (filter f ps) → AreOnce (cond b (p ∷ filter f ps) (filter f ps))
    over true later = (filter_lacks f ps p h.0, later)
    over false later = later

-- the pages that a content of this size still has are pages of it
pub within_below : (size : ℕ) (changed : List ℕ) → AreBelow (pages_of size) (pages_within size changed)
within_below size [] = tt
within_below size (p ∷ ps) = over (nat_lt (page_bytes * p) size) refl (within_below size ps)
  where
    low : nat_lt (page_bytes * p) size ≡ true → page_bytes * p < size
    low e = grind (arith, nat_tests)

    over : (b : Bool) → nat_lt (page_bytes * p) size ≡ b → AreBelow (pages_of size) (pages_within size ps) → AreBelow (pages_of size) (cond b (p ∷ pages_within size ps) (pages_within size ps))
    over true e later = (there_page size p (low e), later)
    over false e later = later

-- a page of the content that it hasn't among them wasn't changed before
pub within_lacks : (size : ℕ) (changed : List ℕ) (page : ℕ) → page < pages_of size → has_page (pages_within size changed) page ≡ false → has_page changed page ≡ false
within_lacks size changed page inside k = over (has_page changed page) refl
  where
    clash : nat_lt (page_bytes * page) size ≡ false → ⊥
    clash e = (let low : page_bytes * page < size = page_there size page inside in grind (arith, nat_tests))

    over : (b : Bool) → has_page changed page ≡ b → b ≡ false
    over false e = refl
    over true e = absurd (clash (passed_over (λ (p : ℕ). nat_lt (page_bytes * p) size) changed page e k))

-- ---- with more pages ----

more_lacks : (page : ℕ) (ys : List ℕ) (x : ℕ) → has_page (ys ++ page ∷ []) x ≡ false → (has_page ys x ≡ false) × ((page == x) ≡ false)
more_lacks page [] x h = (refl, first (page == x) h)
  where
    first : (a : Bool) → a || false ≡ false → a ≡ false
    first false h = refl
    first true h = absurd (true_false h)
more_lacks page (y ∷ ys) x h = over (y == x) refl h (more_lacks page ys x)
  where
    over : (a : Bool) → (y == x) ≡ a → a || has_page (ys ++ page ∷ []) x ≡ false → (has_page (ys ++ page ∷ []) x ≡ false → (has_page ys x ≡ false) × ((page == x) ≡ false)) → (has_page (y ∷ ys) x ≡ false) × ((page == x) ≡ false)
    over true e h rest = absurd (true_false h)
    over false e h rest = (ap (λ (b : Bool). b || has_page ys x) e ∙ (rest h).0, (rest h).1)

with_lacks : (page : ℕ) (ys : List ℕ) (x : ℕ) → has_page (with_page page ys) x ≡ false → (has_page ys x ≡ false) × ((page == x) ≡ false)
with_lacks page ys x h = over (has_page ys page) refl h
  where
    apart : has_page ys page ≡ true → has_page ys x ≡ false → (b : Bool) → (page == x) ≡ b → b ≡ false
    apart has lacks false e = refl
    apart has lacks true e = absurd (true_false (sym has ∙ subst (λ (q : ℕ). has_page ys q ≡ false) (sym (equal page x e)) lacks))

    over : (b : Bool) → has_page ys page ≡ b → has_page (cond b ys (ys ++ page ∷ [])) x ≡ false → (has_page ys x ≡ false) × ((page == x) ≡ false)
    over true e h = (h, apart e h (page == x) refl)
    over false e h = more_lacks page ys x h

pub all_lack : (pages ys : List ℕ) (x : ℕ) → has_page (with_pages pages ys) x ≡ false → (has_page pages x ≡ false) × (has_page ys x ≡ false)
all_lack [] ys x h = (refl, h)
all_lack (p ∷ ps) ys x h =
    let later : (has_page ps x ≡ false) × (has_page (with_page p ys) x ≡ false) = all_lack ps (with_page p ys) x h in
    let here : (has_page ys x ≡ false) × ((p == x) ≡ false) = with_lacks p ys x later.1 in
    (ap (λ (b : Bool). b || has_page ps x) here.1 ∙ later.0, here.0)

more_below : (top page : ℕ) (ys : List ℕ) → page < top → AreBelow top ys → AreBelow top (ys ++ page ∷ [])
more_below top page [] low h = (low, tt)
more_below top page (y ∷ ys) low h = (h.0, more_below top page ys low h.1)

pub all_below : (top : ℕ) (pages ys : List ℕ) → AreBelow top pages → AreBelow top ys → AreBelow top (with_pages pages ys)
all_below top [] ys h k = k
all_below top (p ∷ ps) ys h k = all_below top ps (with_page p ys) h.1 (over (has_page ys p))
  where
    over : (b : Bool) → AreBelow top (cond b ys (ys ++ p ∷ []))
    over true = k
    over false = more_below top p ys h.0 k

lacks_more : (page : ℕ) (ys : List ℕ) (x : ℕ) → has_page ys x ≡ false → (page == x) ≡ false → has_page (ys ++ page ∷ []) x ≡ false
lacks_more page [] x h k = ap (λ (b : Bool). b || false) k
lacks_more page (y ∷ ys) x h k = over (y == x) refl h (lacks_more page ys x)
  where
    over : (a : Bool) → (y == x) ≡ a → a || has_page ys x ≡ false → (has_page ys x ≡ false → (page == x) ≡ false → has_page (ys ++ page ∷ []) x ≡ false) → (y == x) || has_page (ys ++ page ∷ []) x ≡ false
    over true e h rest = absurd (true_false h)
    over false e h rest = ap (λ (b : Bool). b || has_page (ys ++ page ∷ []) x) e ∙ rest h k

more_once : (page : ℕ) (ys : List ℕ) → has_page ys page ≡ false → AreOnce ys → AreOnce (ys ++ page ∷ [])
more_once page [] h k = (refl, tt)
more_once page (y ∷ ys) h k = over (y == page) refl h (λ l. more_once page ys l k.1)
  where
    turned : (y == page) ≡ false → (page == y) ≡ false
    turned e = grind (arith, nat_tests)

    over : (a : Bool) → (y == page) ≡ a → a || has_page ys page ≡ false → (has_page ys page ≡ false → AreOnce (ys ++ page ∷ [])) → (has_page (ys ++ page ∷ []) y ≡ false) × AreOnce (ys ++ page ∷ [])
    over true e h later = absurd (true_false h)
    over false e h later = (lacks_more page ys y k.0 (turned e), later h)

pub all_once : (pages ys : List ℕ) → AreOnce ys → AreOnce (with_pages pages ys)
all_once [] ys k = k
all_once (p ∷ ps) ys k = all_once ps (with_page p ys) (over (has_page ys p) refl)
  where
    over : (b : Bool) → has_page ys p ≡ b → AreOnce (cond b ys (ys ++ p ∷ []))
    over true e = k
    over false e = more_once p ys e k

-- ---- as a pack wants it ----

below_at : (top : ℕ) (pages : List ℕ) → AreBelow top pages → (i : ℕ) → i < length pages → slice_index pages i < top
below_at top [] h i le = absurd (omega (arith, le))
below_at top (p ∷ ps) h zero le = h.0
below_at top (p ∷ ps) h (suc i) le = below_at top ps h.1 i (omega (arith, le))

lacks_at : (pages : List ℕ) (page i : ℕ) → has_page pages page ≡ false → i < length pages → slice_index pages i ≡ page → ⊥
lacks_at [] page i h le e = absurd (omega (arith, le))
lacks_at (p ∷ ps) page zero h le e = true_false (sym (subst (λ (q : ℕ). (p == q) || has_page ps q ≡ true) e (ap (λ (b : Bool). b || has_page ps p) (equal_self p))) ∙ h)
lacks_at (p ∷ ps) page (suc i) h le e = over (p == page) h (λ k. lacks_at ps page i k (omega (arith, le)) e)
  where
    over : (b : Bool) → b || has_page ps page ≡ false → (has_page ps page ≡ false → ⊥) → ⊥
    over true k later = true_false k
    over false k later = later k

once_at : (pages : List ℕ) → AreOnce pages → (i j : ℕ) → i < j → j < length pages → slice_index pages i ≢ slice_index pages j
once_at [] h i j a b = absurd (omega (arith, b))
once_at (p ∷ ps) h zero zero a b = absurd (omega (arith, a))
once_at (p ∷ ps) h zero (suc j) a b = λ e. lacks_at ps p j h.0 (omega (arith, b)) (sym e)
once_at (p ∷ ps) h (suc i) zero a b = absurd (omega (arith, a))
once_at (p ∷ ps) h (suc i) (suc j) a b = once_at ps h.1 i j (omega (arith, a)) (omega (arith, b))

pub are_pages : (top : ℕ) (pages : List ℕ) → AreBelow top pages → AreOnce pages → ArePages top pages
are_pages top pages below once = record { inside = below_at top pages below; distinct = once_at pages once }
