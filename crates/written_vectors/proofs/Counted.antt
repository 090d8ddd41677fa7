-- The counters that stand beside versions are theirs.
use Rattle.std.proofs.Common.{◌≡◌, ◌≤◌, ◌<◌, ℕ, ◌+◌, ◌==◌, ◌&&◌, Bool, true, false, cond, List, [], ◌∷◌, ◌++◌, ◌-◌, zero, suc, length, refl, sym, ap, subst, ◌∙◌, arith, reverse}
use Rattle.std.specs.Prelude.{map, take, set, max, get_or}
use Rattle.std.proofs.lemmas.List.{take_more, reverse-append}
use Rattle.locus_ids.specs.declared.ids.FileId.{FileId}
use Rattle.locus_ids.specs.declared.ids.Stamp.{Stamp}
use Rattle.commit_graph.specs.declared.history.Version.{Version}
use Rattle.commit_graph.specs.Versions.{is_version, same_file, same_stamp}
use Rattle.commit_graph.specs.Counters.{counter, greatest}
use Rattle.commit_graph.specs.Vectors.{numbers_from}
use Rattle.written_vectors.specs.Counting.{counter_in, counter_on, counters_of}

both_left : (a b : Bool) → (a && b) ≡ true → a ≡ true
both_left true b h = refl
both_left false b h = h

pub counted : (file : FileId) (site : ℕ) (h : List Version) (b : Stamp) → counter_in (counters_of file site h) h file b ≡ counter h file b site
counted file site [] b = refl
counted file site (v ∷ older) b = by_test (is_version file b v) refl (counted file site older b)
  where
    by_test : (own : Bool) → is_version file b v ≡ own → counter_in (counters_of file site older) older file b ≡ counter older file b site → cond own (cond (same_file v.file file) (counter_on older file site v) 0) (counter_in (counters_of file site older) older file b)
        ≡ cond own (greatest (λ p. counter older file p site) v.parents + cond (v.site == site) 1 0) (counter older file b site)
    by_test true e rest = rw (both_left (same_file v.file file) (same_stamp v.stamp b) e) refl
    by_test false e rest = rest

greatest-same : (f g : Stamp → ℕ) (ss : List Stamp) → ((s : Stamp) → f s ≡ g s) → greatest f ss ≡ greatest g ss
greatest-same f g [] same = refl
greatest-same f g (s ∷ ss) same = ap (λ n. max n (greatest f ss)) (same s) ∙ ap (max (g s)) (greatest-same f g ss same)

pub greatest_counted : (file : FileId) (site : ℕ) (h : List Version) (counters : List ℕ) (ss : List Stamp) → counters ≡ counters_of file site h
    → greatest (counter_in counters h file) ss ≡ greatest (λ p. counter h file p site) ss
greatest_counted file site h counters ss e =
    ap (λ ns. greatest (counter_in ns h file) ss) e ∙ greatest-same (counter_in (counters_of file site h) h file) (λ p. counter h file p site) ss (counted file site h)

greatest-most : (f : Stamp → ℕ) (most : ℕ) (ss : List Stamp) → ((s : Stamp) → f s ≤ most) → greatest f ss ≤ most
greatest-most f most [] below = omega arith
greatest-most f most (s ∷ ss) below = let here = below s in let rest = greatest-most f most ss below in omega (arith, here, rest)

-- each version raises a counter by one at most
counter-most : (h : List Version) (file : FileId) (b : Stamp) (site : ℕ) → counter h file b site ≤ length h
counter-most [] file b site = omega arith
counter-most (v ∷ older) file b site = by_tests (is_version file b v) (v.site == site) (λ p. counter-most older file p site)
  where
    by_tests : (own here : Bool) → ((p : Stamp) → counter older file p site ≤ length older)
        → cond own (greatest (λ p. counter older file p site) v.parents + cond here 1 0) (counter older file b site) ≤ length (v ∷ older)
    by_tests true true below = let h = greatest-most (λ p. counter older file p site) (length older) v.parents below in omega (arith, h)
    by_tests true false below = let h = greatest-most (λ p. counter older file p site) (length older) v.parents below in omega (arith, h)
    by_tests false here below = let h = below b in omega (arith, h)

pub greatest_below : (file : FileId) (site : ℕ) (h : List Version) (ss : List Stamp) → greatest (λ p. counter h file p site) ss ≤ length h
greatest_below file site h ss = greatest-most (λ p. counter h file p site) (length h) ss (λ p. counter-most h file p site)

get_or_any : {X : Type 0} (xs : List X) (i : ℕ) (d e : X) → i < length xs → get_or xs i d ≡ get_or xs i e
get_or_any [] i d e h = absurd (omega (arith, h))
get_or_any (x ∷ xs) zero d e h = refl
get_or_any (x ∷ xs) (suc i) d e h = get_or_any xs i d e (omega (arith, h))

-- the newest of the first so many, and those before it
pub newest : {X : Type 0} (xs : List X) (left i : ℕ) (x : X) → left ≡ i + 1 → i < length xs → x ≡ get_or xs i x → reverse (take left xs) ≡ x ∷ reverse (take i xs)
newest xs left i x e h is =
    let more : take left xs ≡ take i xs ++ x ∷ [] = ap (λ n. take n xs) e ∙ take_more xs i x h ∙ ap (λ y. take i xs ++ y ∷ []) (sym is) in
    ap reverse more ∙ reverse-append (take i xs) (x ∷ [])

-- the newest version isn't the one that is looked for
pub counter_before : (xs : List ℕ) (vs : List Version) (left : ℕ) (v : Version) (f : FileId) (s : Stamp) → 0 < left → left ≤ length vs → length xs ≡ length vs → v ≡ get_or vs (left - 1) v
    → is_version f s v ≡ false → counter_in (reverse (take left xs)) (reverse (take left vs)) f s ≡ counter_in (reverse (take (left - 1) xs)) (reverse (take (left - 1) vs)) f s
counter_before xs vs left v f s some within long is other =
    let i = left - 1 in
    let e : left ≡ i + 1 = omega (arith, some) in
    let here : i < length vs = omega (arith, some, within) in
    let there : i < length xs = subst (λ n. i < n) (sym long) here in
    let d = get_or xs i 0 in
    let n_is : d ≡ get_or xs i d = get_or_any xs i 0 d there in
    ap (λ ys. counter_in ys (reverse (take left vs)) f s) (newest xs left i d e there n_is)
    ∙ ap (λ ys. counter_in (d ∷ reverse (take i xs)) ys f s) (newest vs left i v e here is)
    ∙ rw other refl

pub counter_here : (xs : List ℕ) (vs : List Version) (left : ℕ) (v : Version) (f : FileId) (s : Stamp) (d : ℕ) → 0 < left → left ≤ length vs → length xs ≡ length vs → v ≡ get_or vs (left - 1) v
    → is_version f s v ≡ true → get_or xs (left - 1) d ≡ counter_in (reverse (take left xs)) (reverse (take left vs)) f s
counter_here xs vs left v f s d some within long is own =
    let i = left - 1 in
    let e : left ≡ i + 1 = omega (arith, some) in
    let here : i < length vs = omega (arith, some, within) in
    let there : i < length xs = subst (λ n. i < n) (sym long) here in
    let n = get_or xs i d in
    let n_is : n ≡ get_or xs i n = get_or_any xs i d n there in
    sym (ap (λ ys. counter_in ys (reverse (take left vs)) f s) (newest xs left i n e there n_is)
    ∙ ap (λ ys. counter_in (n ∷ reverse (take i xs)) ys f s) (newest vs left i v e here is)
    ∙ rw own refl)

-- one counter more
pub numbers_more : (first n : ℕ) → numbers_from first (suc n) ≡ numbers_from first n ++ (first + n) ∷ []
numbers_more first zero = ap (λ k. k ∷ []) (omega arith)
numbers_more first (suc n) = ap (λ ks. first ∷ ks) (numbers_more (first + 1) n ∙ ap (λ k. numbers_from (first + 1) n ++ k ∷ []) (omega arith))

map_more : (f : ℕ → ℕ) (xs : List ℕ) (y : ℕ) → map f (xs ++ y ∷ []) ≡ map f xs ++ f y ∷ []
map_more f [] y = refl
map_more f (x ∷ xs) y = ap (λ ys. f x ∷ ys) (map_more f xs y)

take_set : (xs : List ℕ) (i n : ℕ) → i < length xs → take (suc i) (set xs i n) ≡ take i xs ++ n ∷ []
take_set [] i n h = absurd (omega (arith, h))
take_set (x ∷ xs) zero n h = refl
take_set (x ∷ xs) (suc i) n h = ap (λ ys. x ∷ ys) (take_set xs i n (omega (arith, h)))

pub counters_more : (f : ℕ → ℕ) (parts : List ℕ) (place : ℕ) (n : ℕ) → place < length parts → take place parts ≡ map f (numbers_from 1 place) → n ≡ f (place + 1)
    → take (place + 1) (set parts place n) ≡ map f (numbers_from 1 (place + 1))
counters_more f parts place n h so is =
    let next : place + 1 ≡ suc place = omega arith in
    let last : f (1 + place) ≡ n = ap f (omega arith) ∙ sym is in
    ap (λ k. take k (set parts place n)) next ∙ take_set parts place n h ∙ ap (λ ys. ys ++ n ∷ []) so
    ∙ ap (λ m. map f (numbers_from 1 place) ++ m ∷ []) (sym last)
    ∙ sym (map_more f (numbers_from 1 place) (1 + place)) ∙ ap (map f) (sym (numbers_more 1 place)) ∙ ap (λ k. map f (numbers_from 1 k)) (sym next)
