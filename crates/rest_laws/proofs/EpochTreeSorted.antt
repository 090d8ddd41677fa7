-- Versions that were brought, by files and stamps: a table's rows tell them in the tree's order, and two lists in that order that have
-- the same elements are one.
use Rattle.std.proofs.Common.{◌≡◌, ℕ, ◌+◌, ◌*◌, ◌==◌, ◌<◌, nat_lt, Bool, true, false, ◌&&◌, ◌||◌, cond, List, [], ◌∷◌, ◌++◌, filter, map, refl, sym, ◌∙◌, ap, subst, ◌⊎◌, inl, inr, arith}
use Rattle.std.proofs.lemmas.Bool.Decides.{nat_tests}
use Rattle.std.specs.List.{AllByRecursion, flat_map}
use Rattle.role_steps.proofs.of_plain_facts.Numbers.{equal, equal_self}
use Rattle.role_steps.proofs.of_plain_facts.Tests.{true_false}
use Rattle.locus_ids.specs.declared.ids.Brought.{Brought}
use Rattle.locus_ids.specs.declared.ids.Stamp.{Stamp}
use Rattle.commit_graph.specs.Versions.{is_stamp_below, same_stamp}
use Rattle.role_steps.specs.Own.{Every}
use Rattle.role_steps.specs.Reports.{brought_files, brought_of}
use Rattle.role_steps.specs.Versions.{version_key}
use Rattle.role_steps.specs.declared.synchronizing.FileRow.{FileRow}
use Rattle.role_steps.specs.declared.synchronizing.VersionRow.{VersionRow}
use Rattle.the_run.specs.Kept.{Among}
use Rattle.tree_model.specs.State.{has_stamp, is_brought_below, stamps_of}
use Rattle.tree_laws.specs.Stores.{Ascends as KeysAscend}
use Rattle.tree_laws.specs.Tables.{AreRising}
use Rattle.store_laws.proofs.of_tree_laws.Orders.Standing.{same_stamp_eq}
use Rattle.store_laws.proofs.Holdings.OneVersionAscending.{Ascends}

-- ---- elements of lists ----

pub all_among : {A : Type 0} (P : A → Type 0) (xs : List A) (x : A) → AllByRecursion P xs → Among x xs → P x
all_among P [] x h m = absurd m
all_among P (y ∷ ys) x h (inl e) = subst P (sym e) h.0
all_among P (y ∷ ys) x h (inr m) = all_among P ys x h.1 m

left_among : {A : Type 0} (x : A) (xs ys : List A) → Among x xs → Among x (xs ++ ys)
left_among x [] ys m = absurd m
left_among x (z ∷ zs) ys (inl e) = inl e
left_among x (z ∷ zs) ys (inr m) = inr (left_among x zs ys m)

right_among : {A : Type 0} (x : A) (xs ys : List A) → Among x ys → Among x (xs ++ ys)
right_among x [] ys m = m
right_among x (z ∷ zs) ys m = inr (right_among x zs ys m)

either_among : {A : Type 0} (x : A) (xs ys : List A) → Among x (xs ++ ys) → Among x xs ⊎ Among x ys
either_among x [] ys m = inr m
either_among x (z ∷ zs) ys (inl e) = inl (inl e)
either_among x (z ∷ zs) ys (inr m) = over (either_among x zs ys m)
  where
    over : Among x zs ⊎ Among x ys → ((x ≡ z) ⊎ Among x zs) ⊎ Among x ys
    over (inl k) = inl (inr k)
    over (inr k) = inr k

mapped : {A B : Type 0} (h : A → B) (x : A) (xs : List A) → Among x xs → Among (h x) (map h xs)
mapped h x [] m = absurd m
mapped h x (y ∷ ys) (inl e) = inl (ap h e)
mapped h x (y ∷ ys) (inr m) = inr (mapped h x ys m)

of_map : {A B : Type 0} (h : A → B) (b : B) (xs : List A) → Among b (map h xs) → (x : A) × Among x xs × (b ≡ h x)
of_map h b [] m = absurd m
of_map h b (y ∷ ys) (inl e) = (y, inl refl, e)
of_map h b (y ∷ ys) (inr m) = (let k = of_map h b ys m in (k.0, inr k.1, k.2))

-- ---- what rows have brought ----

-- a version of a row is among what was brought
pub row_brought : (r : FileRow) (v : VersionRow) (rs : List FileRow) → Among r rs → Among v r.versions → Among (brought_of r.ino v) (flat_map brought_files rs)
row_brought r v [] m k = absurd m
row_brought r v (q ∷ qs) (inl e) k = left_among (brought_of r.ino v) (brought_files q) (flat_map brought_files qs) (subst (λ (w : FileRow). Among (brought_of r.ino v) (brought_files w)) e (mapped (brought_of r.ino) v r.versions k))
row_brought r v (q ∷ qs) (inr m) k = right_among (brought_of r.ino v) (brought_files q) (flat_map brought_files qs) (row_brought r v qs m k)

pub record FromRow (rs : List FileRow) (b : Brought) : Type 0 where
  pub file : FileRow
  pub there : Among file rs
  pub version : VersionRow
  pub known : Among version file.versions
  pub is : b ≡ brought_of file.ino version

-- and nothing else is
pub brought_row : (rs : List FileRow) (b : Brought) → Among b (flat_map brought_files rs) → FromRow rs b
brought_row [] b m = absurd m
brought_row (q ∷ qs) b m = over (either_among b (brought_files q) (flat_map brought_files qs) m) (brought_row qs b)
  where
    over : Among b (brought_files q) ⊎ Among b (flat_map brought_files qs) → (Among b (flat_map brought_files qs) → FromRow qs b) → FromRow (q ∷ qs) b
    over (inl k) later = (let z = of_map (brought_of q.ino) b q.versions k in record { file = q; there = inl refl; version = z.0; known = z.1; is = z.2 })
    over (inr k) later = (let z : FromRow qs b = later k in record { file = z.file; there = inr z.there; version = z.version; known = z.known; is = z.is })

-- a stamp of a file that is known is among what is known
pub stamp_among : (bs : List Brought) (ino : ℕ) (s : Stamp) → has_stamp (stamps_of bs ino) s ≡ true → Among (record { ino = ino; stamp = s }) bs
stamp_among [] ino s e = absurd (true_false (sym e))
stamp_among (b ∷ bs) ino s e = at (b.ino == ino) refl e (stamp_among bs ino s)
  where
    here : b.ino ≡ ino → b.stamp ≡ s → record { ino = ino; stamp = s } ≡ b
    here p q = λ i. record { ino = sym p i; stamp = sym q i }

    first : (x : Bool) → same_stamp b.stamp s ≡ x → b.ino ≡ ino → x || has_stamp (stamps_of bs ino) s ≡ true → (has_stamp (stamps_of bs ino) s ≡ true → Among (record { ino = ino; stamp = s }) bs) → (record { ino = ino; stamp = s } ≡ b) ⊎ Among (record { ino = ino; stamp = s }) bs
    first true q p e later = inl (here p (same_stamp_eq b.stamp s q))
    first false q p e later = inr (later e)

    at : (x : Bool) → (b.ino == ino) ≡ x → has_stamp (map (λ (y : Brought). y.stamp) (cond x (b ∷ filter (λ (y : Brought). y.ino == ino) bs) (filter (λ (y : Brought). y.ino == ino) bs))) s ≡ true → (has_stamp (stamps_of bs ino) s ≡ true → Among (record { ino = ino; stamp = s }) bs) → (record { ino = ino; stamp = s } ≡ b) ⊎ Among (record { ino = ino; stamp = s }) bs
    at true p e later = first (same_stamp b.stamp s) refl (equal b.ino ino p) e later
    at false p e later = inr (later e)

-- ---- in order ----

append_ascends : (xs ys : List Brought) → Ascends xs → Ascends ys → AllByRecursion (λ (x : Brought). AllByRecursion (λ (y : Brought). is_brought_below x y ≡ true) ys) xs → Ascends (xs ++ ys)
append_ascends [] ys a b h = b
append_ascends (x ∷ xs) ys a b h = (both xs a.0, append_ascends xs ys a.1 b h.1)
  where
    both : (zs : List Brought) → AllByRecursion (λ (y : Brought). is_brought_below x y ≡ true) zs → AllByRecursion (λ (y : Brought). is_brought_below x y ≡ true) (zs ++ ys)
    both [] k = h.0
    both (z ∷ zs) k = (k.0, both zs k.1)

-- its number has 32 bits
abbrev pub IsLow : VersionRow → Type 0
IsLow v = v.stamp.n < 4294967295

stamps_below : (s z n m : ℕ) → n < 4294967295 → m < 4294967295 → s * 4294967296 + n < z * 4294967296 + m → nat_lt s z || ((s == z) && nat_lt n m) ≡ true
stamps_below s z n m low high e = at (nat_lt s z) refl (s == z) refl (nat_lt n m) refl
  where
    not_lt : (a b : ℕ) → nat_lt a b ≡ false → (a < b → ⊥)
    not_lt a b p k = absurd (grind (arith, nat_tests))

    not_eq : (a b : ℕ) → (a == b) ≡ false → (a ≡ b → ⊥)
    not_eq a b p k = absurd (grind (arith, nat_tests))

    at : (x : Bool) → nat_lt s z ≡ x → (y : Bool) → (s == z) ≡ y → (w : Bool) → nat_lt n m ≡ w → x || (y && w) ≡ true
    at true p y q w r = refl
    at false p true q true r = refl
    at false p true q false r = (let same : s ≡ z = equal s z q in absurd (not_lt n m r (omega (arith, same, e))))
    at false p false q w r = absurd (over p q)
      where
        over : nat_lt s z ≡ false → (s == z) ≡ false → ⊥
        over p q = far (above s z p q)
          where
            above : (a b : ℕ) → nat_lt a b ≡ false → (a == b) ≡ false → b < a
            above a b p q = grind (arith, nat_tests)

            far : z < s → ⊥
            far k = omega (arith, k, low, high, e)

row_ascends : (ino : ℕ) (vs : List VersionRow) → KeysAscend version_key vs → Every IsLow vs → Ascends (map (brought_of ino) vs)
row_ascends ino [] k low = tt
row_ascends ino (v ∷ vs) k low = (above vs k.0 low.1, row_ascends ino vs k.1 low.1)
  where
    one : (w : VersionRow) → version_key v < version_key w → IsLow w → is_brought_below (brought_of ino v) (brought_of ino w) ≡ true
    one w e l = at (nat_lt ino ino) (ino == ino) (equal_self ino) (stamps_below v.stamp.site w.stamp.site v.stamp.n w.stamp.n low.0 l e)
      where
        at : (a b : Bool) → b ≡ true → is_stamp_below v.stamp w.stamp ≡ true → a || (b && is_stamp_below v.stamp w.stamp) ≡ true
        at true b p q = refl
        at false true p q = q
        at false false p q = absurd (true_false (sym p))

    above : (ws : List VersionRow) → Every (λ (w : VersionRow). version_key v < version_key w) ws → Every IsLow ws → AllByRecursion (λ (d : Brought). is_brought_below (brought_of ino v) d ≡ true) (map (brought_of ino) ws)
    above [] e l = tt
    above (w ∷ ws) e l = (one w e.0 l.0, above ws e.1 l.1)

pub record RowAscends (r : FileRow) : Type 0 where
  pub ascends : KeysAscend version_key r.versions
  pub low : Every IsLow r.versions

pub rows_ascend : (rs : List FileRow) → AreRising rs → Every RowAscends rs → Ascends (flat_map brought_files rs)
rows_ascend [] rise h = tt
rows_ascend (r ∷ rs) rise h = append_ascends (brought_files r) (flat_map brought_files rs) (row_ascends r.ino r.versions h.0.ascends h.0.low) (rows_ascend rs rise.1 h.1) (each r.versions)
  where
    further : (v : VersionRow) (d : Brought) → r.ino < d.ino → is_brought_below (brought_of r.ino v) d ≡ true
    further v d e = ap (λ (b : Bool). b || ((r.ino == d.ino) && is_stamp_below v.stamp d.stamp)) (less r.ino d.ino e)
      where
        less : (a b : ℕ) → a < b → nat_lt a b ≡ true
        less a b k = grind (arith, nat_tests)

    of_one : (v : VersionRow) (ino : ℕ) (ws : List VersionRow) (ds : List Brought) → r.ino < ino → AllByRecursion (λ (d : Brought). is_brought_below (brought_of r.ino v) d ≡ true) ds → AllByRecursion (λ (d : Brought). is_brought_below (brought_of r.ino v) d ≡ true) (map (brought_of ino) ws ++ ds)
    of_one v ino [] ds e k = k
    of_one v ino (w ∷ ws) ds e k = (further v (brought_of ino w) e, of_one v ino ws ds e k)

    later : (v : VersionRow) (qs : List FileRow) → Every (λ (q : FileRow). r.ino < q.ino) qs → AllByRecursion (λ (d : Brought). is_brought_below (brought_of r.ino v) d ≡ true) (flat_map brought_files qs)
    later v [] e = tt
    later v (q ∷ qs) e = of_one v q.ino q.versions (flat_map brought_files qs) e.0 (later v qs e.1)

    each : (vs : List VersionRow) → AllByRecursion (λ (x : Brought). AllByRecursion (λ (y : Brought). is_brought_below x y ≡ true) (flat_map brought_files rs)) (map (brought_of r.ino) vs)
    each [] = tt
    each (v ∷ vs) = (later v rs rise.0, each vs)

-- ---- two lists in order ----

less_never : (a : ℕ) → nat_lt a a ≡ false
less_never a = grind (arith, nat_tests)

never_below : (b : Brought) → is_brought_below b b ≡ false
never_below b = at (nat_lt b.ino b.ino) (less_never b.ino) (b.ino == b.ino) (nat_lt b.stamp.site b.stamp.site) (less_never b.stamp.site) (b.stamp.site == b.stamp.site) (nat_lt b.stamp.n b.stamp.n) (less_never b.stamp.n)
  where
    at : (x : Bool) → x ≡ false → (y z : Bool) → z ≡ false → (u w : Bool) → w ≡ false → x || (y && (z || (u && w))) ≡ false
    at true p y z q u w r = absurd (true_false p)
    at false p false z q u w r = refl
    at false p true true q u w r = absurd (true_false q)
    at false p true false q false w r = refl
    at false p true false q true w r = r

not_both : (a b : Brought) → is_brought_below a b ≡ true → is_brought_below b a ≡ true → ⊥
not_both a b e k = at (nat_lt a.ino b.ino) refl (a.ino == b.ino) refl (nat_lt b.ino a.ino) refl (b.ino == a.ino) refl e k
  where
    apart : (m n : ℕ) → nat_lt m n ≡ true → nat_lt n m ≡ true → ⊥
    apart m n p q = absurd (grind (arith, nat_tests))

    unlike : (m n : ℕ) → nat_lt m n ≡ true → (n == m) ≡ true → ⊥
    unlike m n p q = absurd (grind (arith, nat_tests))

    numbers : (u x : Bool) → nat_lt a.stamp.site b.stamp.site ≡ u → nat_lt b.stamp.site a.stamp.site ≡ x → (w y : Bool) → (a.stamp.site == b.stamp.site) ≡ w → (b.stamp.site == a.stamp.site) ≡ y → (z t : Bool) → nat_lt a.stamp.n b.stamp.n ≡ z → nat_lt b.stamp.n a.stamp.n ≡ t → u || (w && z) ≡ true → x || (y && t) ≡ true → ⊥
    numbers true true p q w y r s z t m n e k = apart a.stamp.site b.stamp.site p q
    numbers true false p q w true r s z t m n e k = unlike a.stamp.site b.stamp.site p s
    numbers true false p q w false r s z t m n e k = true_false (sym k)
    numbers false true p q true y r s z t m n e k = unlike b.stamp.site a.stamp.site q r
    numbers false true p q false y r s z t m n e k = true_false (sym e)
    numbers false false p q true true r s true true m n e k = apart a.stamp.n b.stamp.n m n
    numbers false false p q true true r s false t m n e k = true_false (sym e)
    numbers false false p q true true r s true false m n e k = true_false (sym k)
    numbers false false p q false y r s z t m n e k = true_false (sym e)
    numbers false false p q true false r s z t m n e k = true_false (sym k)

    stamps : is_stamp_below a.stamp b.stamp ≡ true → is_stamp_below b.stamp a.stamp ≡ true → ⊥
    stamps e k = numbers (nat_lt a.stamp.site b.stamp.site) (nat_lt b.stamp.site a.stamp.site) refl refl (a.stamp.site == b.stamp.site) (b.stamp.site == a.stamp.site) refl refl (nat_lt a.stamp.n b.stamp.n) (nat_lt b.stamp.n a.stamp.n) refl refl e k

    at : (p : Bool) → nat_lt a.ino b.ino ≡ p → (q : Bool) → (a.ino == b.ino) ≡ q → (r : Bool) → nat_lt b.ino a.ino ≡ r → (s : Bool) → (b.ino == a.ino) ≡ s → p || (q && is_stamp_below a.stamp b.stamp) ≡ true → r || (s && is_stamp_below b.stamp a.stamp) ≡ true → ⊥
    at true m q n true x s y e k = apart a.ino b.ino m x
    at true m q n false x true y e k = unlike a.ino b.ino m y
    at true m q n false x false y e k = true_false (sym k)
    at false m true n true x s y e k = unlike b.ino a.ino x n
    at false m false n true x s y e k = true_false (sym e)
    at false m true n false x true y e k = stamps e k
    at false m true n false x false y e k = true_false (sym k)
    at false m false n false x s y e k = true_false (sym e)

pub lists_same : (xs ys : List Brought) → Ascends xs → Ascends ys → ((b : Brought) → Among b xs → Among b ys) → ((b : Brought) → Among b ys → Among b xs) → xs ≡ ys
lists_same [] [] a b f g = refl
lists_same [] (y ∷ ys) a b f g = absurd (g y (inl refl))
lists_same (x ∷ xs) [] a b f g = absurd (f x (inl refl))
lists_same (x ∷ xs) (y ∷ ys) a b f g = ap (λ (z : Brought). z ∷ xs) head ∙ ap (λ (zs : List Brought). y ∷ zs) (lists_same xs ys a.1 b.1 to from)
  where
    head : x ≡ y
    head = over (f x (inl refl)) (g y (inl refl))
      where
        over : (x ≡ y) ⊎ Among x ys → (y ≡ x) ⊎ Among y xs → x ≡ y
        over (inl e) k = e
        over (inr m) (inl e) = sym e
        over (inr m) (inr k) = absurd (not_both y x (all_among (λ (z : Brought). is_brought_below y z ≡ true) ys x b.0 m) (all_among (λ (z : Brought). is_brought_below x z ≡ true) xs y a.0 k))

    to : (z : Brought) → Among z xs → Among z ys
    to z m = over (f z (inr m))
      where
        over : (z ≡ y) ⊎ Among z ys → Among z ys
        over (inl e) = absurd (true_false (sym (subst (λ (w : Brought). is_brought_below w y ≡ true) head (subst (λ (w : Brought). is_brought_below x w ≡ true) e (all_among (λ (w : Brought). is_brought_below x w ≡ true) xs z a.0 m))) ∙ never_below y))
        over (inr k) = k

    from : (z : Brought) → Among z ys → Among z xs
    from z m = over (g z (inr m))
      where
        over : (z ≡ x) ⊎ Among z xs → Among z xs
        over (inl e) = absurd (true_false (sym (subst (λ (w : Brought). is_brought_below y w ≡ true) (e ∙ head) (all_among (λ (w : Brought). is_brought_below y w ≡ true) ys z b.0 m)) ∙ never_below y))
        over (inr k) = k
